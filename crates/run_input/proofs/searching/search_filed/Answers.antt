use Rattle.std.proofs.Common.{rules, ◌≡◌, ◌⊎◌, ℕ, List, ◌∙◌, subst}
use Rattle.outside_io.specs.Contents.{WhereTold, SameElsewhere, Sets, MaySet}
use Rattle.outside_io.specs.Counts.{Rose}
use Rattle.refute_log.specs.Lines.{header}
use Rattle.refute_log.specs.FileLog.{FileBeginsLog}
use Rattle.run_input.specs.SearchLog.{HoldsLog}
use Rattle.run_input.proofs.FiledLemmas.{at_end, filed_cause, filed_holds, filed_others, filed_begun, left_begun, others_unstarted, begun_unstarted}
use Rattle.run_input.proofs.searching.search_filed.Goals as goal

pub returns-in-Ok-finish-clause-searched : goal.returns-in-Ok-finish-clause-searched
returns-in-Ok-finish-clause-searched g c =
    let at = λ (f : g.row.F.Denot). (g.F.Files.at f).contents in
    let old = at c.args.files.now in
    let mid = at c.in-Ok.log.files.now in
    let after = at c.search.new.log.files.now in
    let name = c.args.name.now in
    let later = c.search.ensures.later.1 in
    let searched = c.in-Ok-search.ensures.searched in
    let created = subst (λ (n : List ℕ). WhereTold old mid (Sets n header)) c.as_str.ensures c.in-Ok.ensures.created in
    record {
      lines = searched.lines;
      told =
          at_end {X = g.row.F.Denot} (λ s. HoldsLog old (at s) name searched.lines) c.finish.new.self.0 _
          (filed_holds old mid after (at c.finish.new.self.0) name c.in-Ok.log.kept c.search.new.log.kept searched.lines created c.in-Ok.ensures.tells
          (c.in-Ok.ensures.name ∙ c.as_str.ensures) later.name later.others
          searched.told.behind c.finish.ensures.others c.in-Ok-finish.ensures.text)
          (search rules);
      ended = searched.ended;
    }

pub returns-in-Ok-finish-clause-others : goal.returns-in-Ok-finish-clause-others
returns-in-Ok-finish-clause-others g c =
    let at = λ (f : g.row.F.Denot). (g.F.Files.at f).contents in
    let old = at c.args.files.now in
    let mid = at c.in-Ok.log.files.now in
    let later = c.search.ensures.later.1 in
    let created = subst (λ (n : List ℕ). WhereTold old mid (Sets n header)) c.as_str.ensures c.in-Ok.ensures.created in
    at_end {X = g.row.F.Denot} (λ s. WhereTold old (at s) (SameElsewhere c.args.name.now)) c.finish.new.self.0 _
    (filed_others old mid (at c.search.new.log.files.now) (at c.finish.new.self.0) c.args.name.now c.in-Ok.log.kept c.search.new.log.kept created
    (c.in-Ok.ensures.name ∙ c.as_str.ensures) later.name
    later.others c.finish.ensures.others)
    (search rules)

pub returns-in-Ok-finish-clause-begun : goal.returns-in-Ok-finish-clause-begun
returns-in-Ok-finish-clause-begun g c =
    let at = λ (f : g.row.F.Denot). (g.F.Files.at f).contents in
    let old = at c.args.files.now in
    let name = c.args.name.now in
    let later = c.search.ensures.later.1 in
    at_end {X = g.row.F.Denot} (λ s. WhereTold old (at s) (λ x y. (y name ≡ x name) ⊎ FileBeginsLog y name)) c.finish.new.self.0 _
    (filed_begun old (at c.in-Ok.log.files.now) (at c.search.new.log.files.now) (at c.finish.new.self.0) name c.in-Ok.log.kept c.search.new.log.kept
    c.in-Ok.ensures.keeps
    (c.in-Ok.ensures.name ∙ c.as_str.ensures) later.name later.keeps c.finish.ensures.begins)
    (search rules)

pub returns-in-Err-finish-clause-others : goal.returns-in-Err-finish-clause-others
returns-in-Err-finish-clause-others g c =
    let at = λ (f : g.row.F.Denot). (g.F.Files.at f).contents in
    let old = at c.args.files.now in
    let mid = at c.in-Ok.log.files.now in
    let later = c.search.ensures.later.1 in
    let created = subst (λ (n : List ℕ). WhereTold old mid (Sets n header)) c.as_str.ensures c.in-Ok.ensures.created in
    at_end {X = g.row.F.Denot} (λ s. WhereTold old (at s) (SameElsewhere c.args.name.now)) c.finish.new.self.0 _
    (filed_others old mid (at c.search.new.log.files.now) (at c.finish.new.self.0) c.args.name.now c.in-Ok.log.kept c.search.new.log.kept created
    (c.in-Ok.ensures.name ∙ c.as_str.ensures) later.name
    later.others c.finish.ensures.others)
    (search rules)

pub returns-in-Err-finish-clause-cause : goal.returns-in-Err-finish-clause-cause
returns-in-Err-finish-clause-cause g c = λ unwritten.
    let faults = λ (f : g.row.F.Denot). (g.F.Files.at f).write_faults in
    at_end {X = g.row.F.Denot} (λ s. Rose (faults c.args.files.now) (faults s)) c.finish.new.self.0 _
    (filed_cause c.in-Err-finish.fault c.cut_of.result (faults c.args.files.now) (faults c.in-Ok.log.files.now) (faults c.search.new.log.files.now)
    (faults c.finish.new.self.0) c.cut_of.ensures unwritten
    c.in-Ok.ensures.faults c.search.ensures.faults c.in-Err-finish.ensures.cause)
    (search rules)

pub returns-in-Err-finish-clause-begun : goal.returns-in-Err-finish-clause-begun
returns-in-Err-finish-clause-begun g c =
    let at = λ (f : g.row.F.Denot). (g.F.Files.at f).contents in
    let old = at c.args.files.now in
    let name = c.args.name.now in
    let later = c.search.ensures.later.1 in
    at_end {X = g.row.F.Denot} (λ s. WhereTold old (at s) (λ x y. (y name ≡ x name) ⊎ FileBeginsLog y name)) c.finish.new.self.0 _
    (filed_begun old (at c.in-Ok.log.files.now) (at c.search.new.log.files.now) (at c.finish.new.self.0) name c.in-Ok.log.kept c.search.new.log.kept
    c.in-Ok.ensures.keeps
    (c.in-Ok.ensures.name ∙ c.as_str.ensures) later.name later.keeps c.finish.ensures.begins)
    (search rules)

pub returns-in-Err-search-clause-begun : goal.returns-in-Err-search-clause-begun
returns-in-Err-search-clause-begun g c =
    let at = λ (f : g.row.F.Denot). (g.F.Files.at f).contents in
    let old = at c.args.files.now in
    let name = c.args.name.now in
    let later = c.search.ensures.later.1 in
    at_end {X = g.row.F.Denot} (λ s. WhereTold old (at s) (λ x y. (y name ≡ x name) ⊎ FileBeginsLog y name)) c.search.new.log.files.now _
    (left_begun old (at c.in-Ok.log.files.now) (at c.search.new.log.files.now) name c.in-Ok.log.kept c.search.new.log.kept c.in-Ok.ensures.keeps
    (c.in-Ok.ensures.name ∙ c.as_str.ensures) later.name
    later.keeps)
    (search rules)

pub returns-in-Err-clause-others : goal.returns-in-Err-clause-others
returns-in-Err-clause-others g c =
    let at = λ (f : g.row.F.Denot). (g.F.Files.at f).contents in
    let old = at c.args.files.now in
    let fails = c.in-Err.ensures.err in
    at_end {X = g.row.F.Denot} (λ s. WhereTold old (at s) (SameElsewhere c.args.name.now)) c.in-Err._files.now _
    (others_unstarted old (at c.in-Err._files.now) c.args.name.now (subst (λ (n : List ℕ). WhereTold old (at c.in-Err._files.now) (MaySet n header))
    c.as_str.ensures fails.file))
    (search rules)

pub returns-in-Err-clause-begun : goal.returns-in-Err-clause-begun
returns-in-Err-clause-begun g c =
    let at = λ (f : g.row.F.Denot). (g.F.Files.at f).contents in
    let old = at c.args.files.now in
    let name = c.args.name.now in
    let fails = c.in-Err.ensures.err in
    at_end {X = g.row.F.Denot} (λ s. WhereTold old (at s) (λ x y. (y name ≡ x name) ⊎ FileBeginsLog y name)) c.in-Err._files.now _
    (begun_unstarted old (at c.in-Err._files.now) name (subst (λ (n : List ℕ). WhereTold old (at c.in-Err._files.now) (MaySet n header)) c.as_str.ensures
    fails.file))
    (search rules)
