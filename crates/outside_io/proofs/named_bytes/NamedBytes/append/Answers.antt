use Rattle.std.proofs.Common.{arith}
use Rattle.std.proofs.lemmas.Map.Text.{text_keys}
use Rattle.outside_io.proofs.Results.{on_err_anyway}
use Rattle.outside_io.proofs.named_bytes.NamedBytes.append.Goals as goal

pub returns-in_err-extend_from_slice-in-Some-clause-err :
    goal.returns-in_err-extend_from_slice-in-Some-clause-err
returns-in_err-extend_from_slice-in-Some-clause-err c =
    on_err_anyway c.from_residual.result _ (λ other. grind (arith, text_keys))

pub returns-in_ok-extend_from_slice-in-Some-clause-ok :
    goal.returns-in_ok-extend_from_slice-in-Some-clause-ok
returns-in_ok-extend_from_slice-in-Some-clause-ok c = record {
  grown = λ old was. grind (arith, text_keys);
  there = λ missing. grind (arith, text_keys);
  others = λ other differs. grind (arith, text_keys);
}
