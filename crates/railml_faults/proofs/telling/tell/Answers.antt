use Rattle.std.proofs.Common.{◌≡◌, sym, ◌∙◌, subst}
use Rattle.railml_faults.specs.Telling.{IsSecond}
use Rattle.railml_faults.proofs.ToldLemmas.{told_is}
use Rattle.railml_faults.proofs.telling.tell.Goals as goal

pub returns : goal.returns
returns c =
    let first : c.in_ok-first.first ≡ c.first_text.result.now = c.in_ok-first.ensures in
    let second : c.in_ok-second.second ≡ c.second_text.result.now = c.in_ok-second.ensures in
    told_is c.args.rows.now c.args.found c.index-rows-found.result c.in_ok-first.first c.in_ok-second.second c.requires c.index-rows-found.is
    (first ∙ c.first_text.ensures) (subst (IsSecond c.index-rows-found.result c.args.found.what) (sym second) c.second_text.ensures)
