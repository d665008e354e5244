use Rattle.std.proofs.Common.{◌∙◌, ℕ, List, subst}
use Rattle.outside_io.specs.Contents.{WhereTold}
use Rattle.run_input.specs.Met.{LeftSo}
use Rattle.run_check.proofs.WrittenLemmas.{HintsMay, written_leaves}
use Rattle.run_check.proofs.trimming.write_left.Goals as goal

pub returns-in-Ok-clause-leaves : goal.returns-in-Ok-clause-leaves
returns-in-Ok-clause-leaves g c =
    let at = g.F.Files.at in
    let old = (at c.args.files.now).contents in
    let new = (at c.write_file.new.files).contents in
    let is = c.deref.ensures.value ∙ c.in_ok-text.ensures in
    subst (λ (name : List ℕ). WhereTold old new (LeftSo (HintsMay name c.args.left.now))) c.as_str.ensures
    (written_leaves c.write_file.result old new c.as_str.result.now c.deref.result.now c.args.left.now is c.write_file.ensures.ok c.write_file.ensures.err)

pub returns-in-Err-Failed-clause-leaves : goal.returns-in-Err-Failed-clause-leaves
returns-in-Err-Failed-clause-leaves g c =
    let at = g.F.Files.at in
    let old = (at c.args.files.now).contents in
    let new = (at c.write_file.new.files).contents in
    let is = c.deref.ensures.value ∙ c.in_ok-text.ensures in
    subst (λ (name : List ℕ). WhereTold old new (LeftSo (HintsMay name c.args.left.now))) c.as_str.ensures
    (written_leaves c.write_file.result old new c.as_str.result.now c.deref.result.now c.args.left.now is c.write_file.ensures.ok c.write_file.ensures.err)

pub returns-clause-leaves : goal.returns-clause-leaves
returns-clause-leaves g c =
    let at = g.F.Files.at in
    let old = (at c.args.files.now).contents in
    let new = (at c.write_file.new.files).contents in
    let is = c.deref.ensures.value ∙ c.in_ok-text.ensures in
    subst (λ (name : List ℕ). WhereTold old new (LeftSo (HintsMay name c.args.left.now))) c.as_str.ensures
    (written_leaves c.write_file.result old new c.as_str.result.now c.deref.result.now c.args.left.now is c.write_file.ensures.ok c.write_file.ensures.err)
