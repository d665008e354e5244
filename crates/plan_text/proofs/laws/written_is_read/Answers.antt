use Rattle.std.proofs.Common.{true, false, subst}
use Rattle.std.proofs.lemmas.Bool.{false≢true}
use Rattle.plan_write.specs.declared.edition.Edition.TheVariants.{First, Second}
use Rattle.plan_text.proofs.WrittenSheet.{IsKept, IsWritable, written}
use Rattle.plan_write.specs.SheetText.{sheet_text}
use Rattle.plan_text.proofs.ShortSheet.{short_sheet}
use Rattle.plan_text.proofs.laws.written_is_read.Goals as goal

writable : (c : goal.After-width) → IsWritable c.args.g.now c.args.s.now
writable c = record {
  station = c.nodes.ensures.station;
  names = c.names.ensures;
  tracks = c.tracks.ensures;
  kept = subst IsKept c.s.view_is (record {
    is_grid = c.width.ensures.is_grid;
    is_order = c.len.ensures.is_order;
    are_lines = c.lines.ensures;
    may_end = c.s.invariant;
  });
  draws_all = c.requires.draws_all;
  on_grid = c.requires.on_grid;
  settled = c.requires.settled;
}

pub returns-clause-text : goal.returns-clause-text
returns-clause-text c = written Second c.args.g.now c.args.s.now false tt (writable c) (λ e. absurd (false≢true e))

pub returns-clause-short : goal.returns-clause-short
returns-clause-short c =
    let g = c.args.g.now in
    let s = c.args.s.now in
    short_sheet g false (sheet_text g s) s c.nodes.ensures.station (written Second g s false tt (writable c) (λ e. absurd (false≢true e)))

pub returns-clause-drawn : goal.returns-clause-drawn
returns-clause-drawn c = λ drawn. written Second c.args.g.now c.args.s.now true tt (writable c) (λ e. drawn)

pub returns-clause-first : goal.returns-clause-first
returns-clause-first c = λ least. written First c.args.g.now c.args.s.now false least (writable c) (λ e. absurd (false≢true e))

pub returns-clause-first_drawn : goal.returns-clause-first_drawn
returns-clause-first_drawn c = λ least drawn. written First c.args.g.now c.args.s.now true least (writable c) (λ e. drawn)
