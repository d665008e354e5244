use Rattle.std.proofs.Common.{◌≡◌, true, false, refl}
use Rattle.std.specs.Prelude.{map}
use Rattle.railml_text.specs.Reading.{written_of}
use Rattle.railml_text.proofs.AttrLemmas.{encoding_named, named_encoding}
use Rattle.railml_text.proofs.FaultLemmas.{least_encoding, declaration_repeat, declaration_sound}
use Rattle.railml_text.proofs.judging.declaration_kind.Goals as goal

pub returns-then-names_other_encoding-clause-fault : goal.returns-then-names_other_encoding-clause-fault
returns-then-names_other_encoding-clause-fault c = least_encoding (map written_of c.args.attrs.now)
    (encoding_named c.args.attrs.now (c.if-names_other_encoding.ensures.0 refl))

pub returns-then-branch-clause-fault : goal.returns-then-branch-clause-fault
returns-then-branch-clause-fault c = declaration_repeat (map written_of c.args.attrs.now)
    (λ e. let k : false ≡ true = c.if-names_other_encoding.ensures.1 (named_encoding c.args.attrs.now e) in cc)
    (c.in_ok-has_repeat.ensures.yes c.if-branch.true)

pub returns-clause-kind : goal.returns-clause-kind
returns-clause-kind c = declaration_sound (map written_of c.args.attrs.now) (λ e. let k : false ≡ true = c.if-names_other_encoding.ensures.1
    (named_encoding c.args.attrs.now e) in cc) (c.in_ok-has_repeat.ensures.no c.if-branch.false)
