use Rattle.log_check.proofs.laws.what_is_certified_is_so.Goals as goal

pub returns : goal.returns
returns c = record { least = λ y order v places log h. h.is_verdict.is_so; none = λ y order log h. h.is_verdict.is_so }
