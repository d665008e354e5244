use Rattle.law_core.proofs.LooseLemmas.{joined_loose, loose_joined}
use Rattle.law_core.proofs.laws.loose_drawings_are_joined.Goals as goal

pub returns : goal.returns
returns c = record {
  loose = λ g grid d h. joined_loose g grid d h;
  joined = λ g grid d is h. loose_joined g grid d is h;
}
