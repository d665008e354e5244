use Rattle.std.proofs.Common.{rules, ◌≡◌, ◌++◌, [], ◌∷◌, refl, sym, ◌∙◌, ap}
use Rattle.plan_core.proofs.ListFacts.{each_pushed}
use Rattle.refute_log.specs.Lines.{ended_text, MayBeTold}
use Rattle.refute_log.specs.Told.{learnt_after}
use Rattle.refute_log.specs.Log.{learnt_count}
use Rattle.refute_log.specs.FileLog.{where_told_same}
use Rattle.refute_log.proofs.LogLemmas.{learnt_count_more}
use Rattle.refute_log.proofs.FrontLemmas.{others_of_cut, others_of_piece, cut_keeps, line_keeps, piece_keeps}
use Rattle.refute_log.proofs.TextLemmas.{text_gathered, text_appended}
use Rattle.refute_log.proofs.file_log.FileLogLogSink.tell.Goals as goal
use Rattle.refute_log.proofs.file_log.FileLogLogSink.tell.Goals.{then-len-ge-PIECE+in-Ok, else-len-ge-PIECE}

pub returns-clause-ok : goal.returns-clause-ok
returns-clause-ok g c = λ lines h.
    let gathered = text_gathered (g.F.Files.at c.args.self.now.files.now).contents c.args.self.now.kept.name.bytes.items c.args.self.now.kept.bytes.items
    c.write_line.new.into.items lines c.args.line.now (search rules) h.0.1 in
    let told = each_pushed MayBeTold lines c.args.line.now h.0.2 c.requires in
    let count : learnt_after c.args.line.now c.args.self.now.kept.learnt ≡ learnt_count (lines ++ c.args.line.now ∷ []) = ap (learnt_after c.args.line.now) h.1
    ∙ sym (learnt_count_more lines c.args.line.now) in
    elim c.if-len-ge-PIECE.branch [
      | then-len-ge-PIECE+in-Ok w ↦ rw w.self-is (
        (
          h.0.0,
          text_appended _ _ c.args.self.now.kept.name.bytes.items c.write_line.new.into.items _ _
              w.clear.ensures.items (rw (w.as_str.ensures.value, w.deref.ensures.value) at w.in-Ok.ensures.ok) gathered,
          told,
        ),
        (rw w.self-is at c.count_after-self.ensures) ∙ count,
      )
      | else-len-ge-PIECE w ↦ rw w.self-is ((h.0.0, gathered, told), (rw w.self-is at c.count_after-self.ensures) ∙ count)
    ]

pub returns-in-Err-clause-later : goal.returns-in-Err-clause-later
returns-in-Err-clause-later g c =
    let before = (g.F.Files.at c.args.self.now.files.now).contents in
    let after = (g.F.Files.at c.append.new.self).contents in
    let kept = c.args.self.now.kept in
    let now = c.write_line.new.into.items in
    let w = rw (c.as_str.ensures.value, c.deref.ensures.value) at c.in-Err.ensures.err in (
      refl,
      record {
        name = refl;
        others = others_of_cut before after kept.name.bytes.items now w;
        keeps = cut_keeps before after kept.failed kept.name.bytes.items kept.bytes.items now c.args.line.now c.if-self.false c.requires (search rules) w;
        read_faults = c.append.ensures.read_faults;
        reads = c.append.ensures.reads;
      },
    )

pub returns-clause-later : goal.returns-clause-later
returns-clause-later g c =
    let before = (g.F.Files.at c.args.self.now.files.now).contents in
    let kept = c.args.self.now.kept in
    let now = c.write_line.new.into.items in
    let written : now ≡ kept.bytes.items ++ ended_text c.args.line.now = search rules in
    elim c.if-len-ge-PIECE.branch [
      | then-len-ge-PIECE+in-Ok w ↦
          let v = rw (w.as_str.ensures.value, w.deref.ensures.value) at w.in-Ok.ensures.ok in
          rw w.self-is (
            refl,
            record {
              name = refl;
              others = others_of_piece before (g.F.Files.at w.append.new.self).contents kept.name.bytes.items now v;
              keeps = piece_keeps before (g.F.Files.at w.append.new.self).contents kept.failed kept.name.bytes.items kept.bytes.items now _ c.args.line.now
                  c.if-self.false c.requires written w.clear.ensures.items v;
              read_faults = w.append.ensures.read_faults;
              reads = w.append.ensures.reads;
            },
          )
      | else-len-ge-PIECE w ↦ rw w.self-is (
        refl,
        record {
          name = refl;
          others = where_told_same before kept.name.bytes.items;
          keeps = line_keeps before kept.failed kept.name.bytes.items kept.bytes.items now c.args.line.now c.if-self.false c.requires written;
          read_faults = refl;
          reads = refl;
        },
      )
    ]
