use Rattle.std.proofs.Common.{◌≡◌, List, length, Bool, false, ◌∙◌, ap, arith}
use Rattle.std.proofs.lemmas.List.{length-replicate}
use Rattle.cnf_core.specs.Formula.{Cnf}
use Rattle.model_decode.proofs.encoding.encode_drawing.Goals as goal

pub put-requires-clause-vars : goal.put-requires-clause-vars
put-requires-clause-vars c =
    let made : length c.in_ok-m.m ≡ c.vars.result = ap (λ (l : List Bool). length l) c.in_ok-m.ensures ∙ length-replicate c.vars.result false in
    let is : c.vars.result ≡ c.args.e.now.formula.vars = c.vars.ensures.value ∙ ap (λ (f : Cnf). f.vars) c.formula.ensures in
    omega arith

pub returns-clause-vars : goal.returns-clause-vars
returns-clause-vars c =
    let made : length c.in_ok-m.m ≡ c.vars.result = ap (λ (l : List Bool). length l) c.in_ok-m.ensures ∙ length-replicate c.vars.result false in
    c.put.ensures.vars ∙ made ∙ c.vars.ensures.value ∙ ap (λ (f : Cnf). f.vars) c.formula.ensures
