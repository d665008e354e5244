-- Notes of what clauses left, while more literals join.
use Rattle.std.proofs.Common.{◌≡◌, ℕ, true, false, List, [], ◌∷◌, ◌++◌, refl, sym, ◌∙◌, ap}
use Rattle.std.specs.Prelude.{All}
use Rattle.std.proofs.lemmas.List.Elements.{All-weaker, All-push}
use Rattle.cnf_core.specs.Lit.{Literal, negate, has}
use Rattle.cnf_core.specs.Clause.{Clauses}
use Rattle.cnf_core.specs.Propagation.{LiteralSet, Includes}
use Rattle.cnf_core.proofs.TrailLemmas.{push_keeps}
use Rattle.hint_log.specs.Hint.{numbered, left_of, LeavesOne}
use Rattle.hint_log.specs.Looks.{IsNoteOf, note_of}
use Rattle.hint_log.specs.declared.notes.Note.{Note}
use Rattle.hint_log.proofs.LeftLemmas.{one_left}

-- of what a smaller set left is left what is left of the clause
left_again : (small big : LiteralSet) (c : List Literal) → Includes big small → left_of big (left_of small c) ≡ left_of big c
left_again small big [] within = refl
left_again small big (k ∷ c) within = elim (small (negate k)) as (λ b. small (negate k) ≡ b → left_of big (left_of small (k ∷ c)) ≡ left_of big (k ∷ c)) [
  | true ↦ λ t. rw t (rw (within (negate k) t) (left_again small big c within))
  | false ↦ λ f. rw f (elim (big (negate k)) as (λ b. big (negate k) ≡ b → left_of big (k ∷ left_of small c) ≡ left_of big (k ∷ c)) [
    | true ↦ λ t. rw t (left_again small big c within)
    | false ↦ λ g. rw g (ap (λ (ls : List Literal). k ∷ ls) (left_again small big c within))
  ] refl)
] refl

-- a note stays one while the set grows
note_stays : (clauses : Clauses) (small big : LiteralSet) (note : Note) → Includes big small → IsNoteOf clauses small note → IsNoteOf clauses big note
note_stays clauses small big note within h = record {
  names = h.names;
  same = sym (left_again small big (numbered clauses note.number) within) ∙ ap (left_of big) h.same ∙ left_again small big (note.left ∷ []) within;
}

-- the one literal that is left is left of itself
left_alone : (set : LiteralSet) (l : Literal) → set (negate l) ≡ false → left_of set (l ∷ []) ≡ l ∷ []
left_alone set l f = rw f refl

note_is : (clauses : Clauses) (set : LiteralSet) (n : ℕ) (l : Literal) → LeavesOne clauses set n l → IsNoteOf clauses set (note_of n l)
note_is clauses set n l one =
    let left = one_left set (numbered clauses n) l one.one in
    record { names = one.number; same = one.one ∙ sym (left_alone set l left.open_) }

-- a literal joins, with its note
pub notes_more : (clauses : Clauses) (marks : List Literal) (notes : List Note) (n : ℕ) (l : Literal) → All (IsNoteOf clauses (has marks)) notes →
    LeavesOne clauses (has marks) n l → All (IsNoteOf clauses (has (marks ++ l ∷ []))) (notes ++ note_of n l ∷ [])
notes_more clauses marks notes n l each one =
    let more = push_keeps marks l in
    All-push (IsNoteOf clauses (has (marks ++ l ∷ []))) notes (note_of n l)
    (All-weaker (IsNoteOf clauses (has marks)) (IsNoteOf clauses (has (marks ++ l ∷ [])))
    (λ note h. note_stays clauses (has marks) (has (marks ++ l ∷ [])) note more h) notes each)
    (note_stays clauses (has marks) (has (marks ++ l ∷ [])) (note_of n l) more (note_is clauses (has marks) n l one))
