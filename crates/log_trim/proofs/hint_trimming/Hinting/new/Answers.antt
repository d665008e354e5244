use Rattle.std.proofs.Common.{refl, sym, subst, arith}
use Rattle.std.specs.Prelude.{All, flat_map}
use Rattle.refute_log.specs.Log.{given}
use Rattle.log_trim.specs.HintRoom.{IsLineWithin}
use Rattle.log_trim.proofs.HintingLemmas.{given_few, hinting_none}
use Rattle.log_trim.proofs.hint_trimming.Hinting.new.Goals as goal

pub overflow_cast-learnt : goal.overflow_cast-learnt
overflow_cast-learnt c = let le = given_few c.args.lines.now in let is = c.count_given-learnt.ensures in let few = c.requires.few in omega (arith, le, is, few)

pub returns : goal.returns
returns c wanted =
    let f = c.in_ok-finder.ensures in
    hinting_none c.args.lines.now wanted _ (f.finder (flat_map given c.args.lines.now))
    (subst (λ n. All (IsLineWithin n) c.args.lines.now) (sym f.vars) c.requires.within) refl c.count_given-learnt.ensures c.new-2.ensures
