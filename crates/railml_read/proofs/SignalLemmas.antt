-- What is kept of signals while a tree's tags go by.
use Rattle.std.proofs.Common.{◌≡◌, ℕ, ◌+◌, ◌-◌, List, [], ◌∷◌, ◌++◌, length, take, refl, sym, ap, ◌∙◌, append_assoc, arith}
use Rattle.std.specs.Prelude.{fold}
use Rattle.std.proofs.lemmas.List.{append-nil}
use Rattle.railml_read.specs.declared.rows.SignalElem.{SignalElem}
use Rattle.railml_read.specs.declared.contexts.Context.{Context}
use Rattle.railml_read.specs.declared.contexts.Context.TheVariants.{Outside}
use Rattle.railml_read.specs.declared.progress.Frame.{Frame}
use Rattle.railml_read.specs.Contexts.{below}
use Rattle.railml_read.specs.Tree.{Elements, none, element, XmlTree, root_of, Tag, opens, closes, tags_of}
use Rattle.railml_read.specs.Signals.{own_track, own_signal, tracks_from, signals_from, signals_of}
use Rattle.railml_read.specs.Progress.{State, top_frame, context_in, frame_in, after_tag, start, Marks, after_mark, after_both, no_marks}
use Rattle.railml_read.proofs.Ends.{last_push, front_push}

abbrev pub marked : ℕ → List SignalElem → Marks
marked tracks signals = record { tracks = tracks; signals = signals }

-- what is kept of rows doesn't depend on what is kept of signals
pub first_of_both : (tags : List Tag) (s : State) (m : Marks) → (fold after_both (s, m) tags).0 ≡ fold after_tag s tags
first_of_both [] s m = refl
first_of_both (t ∷ tags) s m = first_of_both tags (after_tag s t) (after_mark s m t)

-- the tags of elements whose parent stands here leave the stack, and add their tracks and signals
pub record Gone (elements : Elements) (context : Context) (s : State) (tracks : ℕ) (signals : List SignalElem) (rest : List Tag) : Type 0 where
  pub t : State
  pub same : t.stack ≡ s.stack
  pub gone : fold after_both (s, marked tracks signals) (tags_of elements ++ rest) ≡ fold after_both
      (t, marked (tracks + tracks_from context elements) (signals ++ signals_from context tracks elements)) rest

pub gone_by : (elements : Elements) (context : Context) (s : State) (tracks : ℕ) (signals : List SignalElem) (rest : List Tag) →
    context_in (top_frame s.stack) ≡ context → Gone elements context s tracks signals rest
gone_by none context s tracks signals rest e = record {
  t = s;
  same = refl;
  gone = ap (λ (n : ℕ). fold after_both (s, marked n signals) rest) (let same : tracks ≡ tracks + 0 = omega arith in same)
      ∙ ap (λ (xs : List SignalElem). fold after_both (s, marked (tracks + 0) xs) rest) (sym (append-nil signals));
}
gone_by (element at name attrs children after) context s tracks signals rest e =
    let here = below context name in
    let begun = tracks + own_track here in
    let own = own_signal here at attrs begun in
    let inside = signals_from here begun children in
    let frame = frame_in s.stack name (length s.rows) in
    let opened = after_tag s (opens at name attrs) in
    let tags = closes name ∷ (tags_of after ++ rest) in
    let top : context_in (top_frame opened.stack) ≡ here = ap context_in (last_push s.stack frame) ∙ ap (λ (k : Context). below k name) e in
    let first = gone_by children here opened begun (signals ++ own) tags top in
    let closed = after_tag first.t (closes name) in
    let left : closed.stack ≡ s.stack = ap (λ (st : List Frame). take (length st - 1) st) first.same ∙ front_push s.stack frame in
    let second = gone_by after context closed (begun + tracks_from here children) ((signals ++ own) ++ inside) rest
    (ap (λ (st : List Frame). context_in (top_frame st)) left ∙ e) in
    let marks_at : Context → Marks = λ k. marked (tracks + own_track (below k name))
    (signals ++ own_signal (below k name) at attrs (tracks + own_track (below k name))) in
    record {
      t = second.t;
      same = second.same ∙ left;
      gone =
          ap (λ (t : List Tag). fold after_both (opened, marks_at (context_in (top_frame s.stack))) t)
          (append_assoc (tags_of children) (closes name ∷ tags_of after) rest)
          ∙ ap (λ (k : Context). fold after_both (opened, marks_at k) (tags_of children ++ tags)) e
          ∙ first.gone
          ∙ second.gone
          ∙ ap (λ (n : ℕ). fold after_both (second.t, marked n (((signals ++ own) ++ inside) ++ signals_from context (begun + tracks_from here children) after))
          rest) (sums tracks (own_track here) (tracks_from here children) (tracks_from context after))
          ∙ ap (λ (xs : List SignalElem). fold after_both (
            second.t,
            marked (tracks + (own_track here + tracks_from here children + tracks_from context after))
                xs,
          ) rest) (lists signals own inside (signals_from context (begun + tracks_from here children) after));
    }
  where
    sums : (a b c d : ℕ) → (a + b + c) + d ≡ a + (b + c + d)
    sums a b c d = omega arith

    lists : (a b c d : List SignalElem) → ((a ++ b) ++ c) ++ d ≡ a ++ (b ++ (c ++ d))
    lists a b c d = simp append_assoc

-- the tracks and signals of a tree
pub tree_marks : (tree : XmlTree) → (fold after_both (start, no_marks) (tags_of (root_of tree))).1 ≡ marked (0 + tracks_from Outside (root_of tree))
    ([] ++ signals_of tree)
tree_marks tree =
    let g = gone_by (root_of tree) Outside start 0 [] [] refl in
    ap (λ (t : List Tag). (fold after_both (start, no_marks) t).1) (sym (append-nil (tags_of (root_of tree)))) ∙ ap (λ (b : State × Marks). b.1) g.gone
