-- What stands after `<`: each kind of item that begins so, and all of them together.
use Rattle.std.proofs.Common.{◌≡◌, ◌≢◌, ◌⊎◌, ℕ, Bool, true, false, ◌==◌, ◌&&◌, MatchBool, codes, List, [], ◌∷◌, ◌++◌, drop, Ok, Err, refl, sym, ap, ◌∙◌, subst}
use Rattle.std.proofs.Common.{append_assoc, arith, inl, inr}
use Rattle.std.specs.Prelude.{⊤}
use Rattle.std.proofs.lemmas.Bool.{both_ways, and_parts, false_from_ne_true, and_from, cases_Bool}
use Rattle.plan_core.proofs.ListFacts.{same_heads}
use Rattle.railml_text.specs.declared.miss.Miss.TheVariants.{Cut, Bad}
use Rattle.railml_text.specs.declared.written.Closing.TheVariants.{Tag, Declaration}
use Rattle.railml_text.specs.Bytes.{is_blank, begins_name, goes_on_name}
use Rattle.railml_text.specs.Grammar.{AreBlanks, Written, IsAttr, AreAttrs}
use Rattle.railml_text.specs.Items.{declaration, instruction, comment, cdata, start_tag, end_tag}
use Rattle.railml_text.specs.Reading.{Read, begins_blank, mapped, InTurn, skip, by_first, ByFirst, nothing_at, word_at, name_at, attr_at, end_tag_at, Tail}
use Rattle.railml_text.specs.Reading.{bracket_at, Found, item, doctype, comment_at, cdata_at, doctype_at, bang_at, blank_after, goes_on_xml, declared}
use Rattle.railml_text.specs.Reading.{DeclarationRead, instruction_at, QuestionRead, started, StartRead, closing_tag_at, MarkupRead}
use Rattle.railml_text.proofs.RunLemmas.{same_if_eq, blank_no_name, name_no_blank}
use Rattle.railml_text.proofs.LawLemmas.{Taken, GoesOn, Law, graph, Anything, MappedText, mapped_err, Law-mapped, TurnText, SomeText, SomeText-turn, Law-turn}
use Rattle.railml_text.proofs.LawLemmas.{Law-in_turn, NoBlankFirst, OtherFirst, FirstText, Law-ByFirst, Law-by_first, NoText, Law-nothing}
use Rattle.railml_text.proofs.ReaderLemmas.{IsWord, Law-word, SomeText-word, EndsName, IsNameText, Law-name, SkipText, Law-skip, blanks_end_name, Law-attr}
use Rattle.railml_text.proofs.ReaderLemmas.{name_begins, attr_begins, AfterSlash, Law-end_tag}
use Rattle.railml_text.proofs.TagLemmas.{closing_begins, TailText, Law-tail, some_tail}
use Rattle.railml_text.proofs.BracketLemmas.{UpToFirst, bracket_not_bad, bracket_completed, Law-bracket}

-- ---- comments, CDATA, document type declarations: after `<!`

abbrev pub CommentText : List ℕ → Found → Type 0
CommentText = TurnText (λ _ _. item comment) (IsWord (codes "-")) (UpToFirst (codes "-->"))

abbrev pub CdataText : List ℕ → Found → Type 0
CdataText = TurnText (λ _ _. item cdata) (IsWord (codes "CDATA[")) (UpToFirst (codes "]]>"))

abbrev pub DoctypeText : List ℕ → Found → Type 0
DoctypeText = MappedText (λ _. doctype) (IsWord (codes "OCTYPE"))

-- a point isn't in any closing
Law-comment_end : Law (graph (bracket_at (codes "-->"))) (UpToFirst (codes "-->")) Anything
Law-comment_end = Law-bracket 46 45 (45 ∷ 62 ∷ []) (refl, (refl, (refl, tt)))

Law-cdata_end : Law (graph (bracket_at (codes "]]>"))) (UpToFirst (codes "]]>")) Anything
Law-cdata_end = Law-bracket 46 93 (93 ∷ 62 ∷ []) (refl, (refl, (refl, tt)))

Law-instruction_end : Law (graph (bracket_at (codes "?>"))) (UpToFirst (codes "?>")) Anything
Law-instruction_end = Law-bracket 46 63 (62 ∷ []) (refl, (refl, tt))

some_comment_end : SomeText (UpToFirst (codes "-->"))
some_comment_end = let t = Law-comment_end.takes (codes "-->") tt [] refl in record { text = t.text; read = tt; is = t.is }

some_cdata_end : SomeText (UpToFirst (codes "]]>"))
some_cdata_end = let t = Law-cdata_end.takes (codes "]]>") tt [] refl in record { text = t.text; read = tt; is = t.is }

Law-comment : Law (graph comment_at) CommentText Anything
unfolding comment_at
Law-comment = Law-in_turn (λ _ _. item comment) (word_at (codes "-")) (bracket_at (codes "-->")) (Law-word (codes "-")) Law-comment_end (λ b x rest t f. tt)
    some_comment_end

Law-cdata : Law (graph cdata_at) CdataText Anything
unfolding cdata_at
Law-cdata = Law-in_turn (λ _ _. item cdata) (word_at (codes "CDATA[")) (bracket_at (codes "]]>")) (Law-word (codes "CDATA[")) Law-cdata_end (λ b x rest t f. tt)
    some_cdata_end

Law-doctype : Law (graph doctype_at) DoctypeText Anything
unfolding doctype_at
Law-doctype = Law-mapped (λ _. doctype) (word_at (codes "OCTYPE")) (Law-word (codes "OCTYPE"))

abbrev pub BangText : List ℕ → Found → Type 0
BangText = FirstText 45 CommentText (FirstText 91 CdataText (FirstText 68 DoctypeText NoText))

some_comment : SomeText CommentText
some_comment = SomeText-turn (λ _ _. item comment) (SomeText-word (codes "-")) some_comment_end

Law-bang : Law (graph bang_at) BangText Anything
Law-bang = Law-by_first 45 comment_at (by_first 91 cdata_at (by_first 68 doctype_at nothing_at)) Law-comment
    (Law-by_first 91 cdata_at (by_first 68 doctype_at nothing_at) Law-cdata
    (Law-by_first 68 doctype_at nothing_at Law-doctype (Law-nothing Anything) (record {
      text = codes "OCTYPE";
      read = doctype;
      is = record { read = tt; is = refl; made = refl };
    }) (λ text x n. absurd n))
    (SomeText-turn (λ _ _. item cdata) (SomeText-word (codes "CDATA[")) some_cdata_end) others)
    some_comment more_others
  where
    others : (text : List ℕ) (found : Found) → FirstText 68 DoctypeText NoText text found → OtherFirst 91 text
    others text found (inl t) = record { head = 68; tail = t.thing; other = refl; parts = t.parts }
    others text found (inr n) = absurd n

    more_others : (text : List ℕ) (found : Found) → FirstText 91 CdataText (FirstText 68 DoctypeText NoText) text found → OtherFirst 45 text
    more_others text found (inl t) = record { head = 91; tail = t.thing; other = refl; parts = t.parts }
    more_others text found (inr (inl t)) = record { head = 68; tail = t.thing; other = refl; parts = t.parts }
    more_others text found (inr (inr n)) = absurd n

-- ---- the declaration, after `<?xml`

abbrev pub DeclarationText : List ℕ → Found → Type 0
DeclarationText = TurnText declared (SkipText IsAttr) (TailText Declaration)

attr_no_blank : (text : List ℕ) (attr : Written) → IsAttr text attr → NoBlankFirst text
attr_no_blank text attr i = let b = attr_begins text attr i in record {
  head = b.head;
  tail = b.tail;
  no_blank = name_no_blank b.head b.begins;
  parts = b.parts;
}

Law-declaration : Law DeclarationRead DeclarationText Anything
unfolding attr_at
Law-declaration = Law-turn declared (skip attr_at) (Tail Declaration) (Law-skip attr_at Law-attr refl attr_no_blank) (Law-tail Declaration) (λ b x rest t f. tt)
    (some_tail Declaration)

-- ---- after `<?`

-- `xml` and white space
pub record BeginsXml (bytes : List ℕ) : Type 0 where
  pub blank : ℕ
  pub after : List ℕ
  pub is : is_blank blank ≡ true
  pub parts : bytes ≡ codes "xml" ++ blank ∷ after

xml_begins : (bytes : List ℕ) → goes_on_xml bytes ≡ true → BeginsXml bytes
xml_begins bytes e = cases (word_at (codes "xml") bytes) refl e
  where
    rests : (rest : List ℕ) → word_at (codes "xml") bytes ≡ Ok (tt, rest) → begins_blank rest ≡ true → BeginsXml bytes
    rests [] h k = absurd cc
    rests (b ∷ rest) h k =
        let t = (Law-word (codes "xml")).takes bytes tt (b ∷ rest) h in
        record { blank = b; after = rest; is = k; parts = t.parts ∙ ap (λ (u : List ℕ). u ++ b ∷ rest) t.is }

    cases : (r : Read ⊤) → word_at (codes "xml") bytes ≡ r → blank_after r ≡ true → BeginsXml bytes
    cases (Ok x) h k = rests x.1 h k
    cases (Err m) h k = absurd cc

begins_xml : (bytes : List ℕ) → BeginsXml bytes → goes_on_xml bytes ≡ true
begins_xml bytes b = ap goes_on_xml b.parts ∙ b.is

xml_more : (bytes after : List ℕ) → BeginsXml bytes → BeginsXml (bytes ++ after)
xml_more bytes after b = record { blank = b.blank; after = b.after ++ after; is = b.is; parts = ap (λ (u : List ℕ). u ++ after) b.parts }

-- a byte that is neither of `xml` nor white space stands behind such a beginning
xml_before : (x : ℕ) (bytes more : List ℕ) → x ≢ 120 → x ≢ 109 → x ≢ 108 → is_blank x ≡ false → BeginsXml (bytes ++ x ∷ more) → BeginsXml bytes
xml_before x bytes more p q r s b = cases bytes b.parts
  where
    first : List ℕ → ℕ
    first [] = 0
    first (y ∷ ys) = y

    nth : ℕ → List ℕ → ℕ
    nth n ys = first (drop n ys)

    cases : (ys : List ℕ) → ys ++ x ∷ more ≡ 120 ∷ 109 ∷ 108 ∷ b.blank ∷ b.after → BeginsXml ys
    cases [] e = absurd (p (ap (λ (u : List ℕ). nth 0 u) e))
    cases (y ∷ []) e = absurd (q (ap (λ (u : List ℕ). nth 1 u) e))
    cases (y ∷ z ∷ []) e = absurd (r (ap (λ (u : List ℕ). nth 2 u) e))
    cases (y ∷ z ∷ w ∷ []) e = let same : x ≡ b.blank = ap (λ (u : List ℕ). nth 3 u) e in absurd (both_ways (is_blank x) s (ap is_blank same ∙ b.is))
    cases (y ∷ z ∷ w ∷ v ∷ ys) e =
        let first_is : y ≡ 120 = ap (λ (u : List ℕ). nth 0 u) e in
        let second_is : z ≡ 109 = ap (λ (u : List ℕ). nth 1 u) e in
        let third_is : w ≡ 108 = ap (λ (u : List ℕ). nth 2 u) e in
        let blank_is : v ≡ b.blank = ap (λ (u : List ℕ). nth 3 u) e in
        record { blank = v; after = ys; is = ap is_blank blank_is ∙ b.is; parts = rw (first_is, second_is, third_is) refl }

-- the declaration, as the bytes after `<?`
pub record XmlText (first : Bool) (text : List ℕ) (found : Found) : Type 0 where
  pub only_first : first ≡ true
  pub begins : BeginsXml text
  pub thing : List ℕ
  pub is : DeclarationText thing found
  pub parts : text ≡ codes "xml" ++ thing

pub record InstructionText (first : Bool) (text : List ℕ) (found : Found) : Type 0 where
  pub up_to : UpToFirst (codes "?>") text tt
  pub is : found ≡ item instruction
  pub no_xml : first ≡ true → BeginsXml text → ⊥

abbrev pub QuestionText : Bool → List ℕ → Found → Type 0
QuestionText first text found = XmlText first text found ⊎ InstructionText first text found

-- a text of the declaration's attributes isn't empty
thing_begins : (thing : List ℕ) (found : Found) → DeclarationText thing found → (b : ℕ) × (after : List ℕ) × (thing ≡ b ∷ after)
thing_begins thing found t = cases t.is_a.blanks refl
  where
    cases : (blanks : List ℕ) → t.is_a.blanks ≡ blanks → (b : ℕ) × (after : List ℕ) × (thing ≡ b ∷ after)
    cases [] e =
        let n = attr_no_blank t.is_a.thing t.x t.is_a.is in
        (n.head, n.tail ++ t.b, t.parts ∙ ap (λ (u : List ℕ). u ++ t.b) (t.is_a.parts ∙ ap (λ (u : List ℕ). u ++ t.is_a.thing) e ∙ n.parts))
    cases (c ∷ blanks) e = (
      c,
      (blanks ++ t.is_a.thing) ++ t.b,
      t.parts ∙ ap (λ (u : List ℕ). u ++ t.b)
          (t.is_a.parts ∙ ap (λ (u : List ℕ). u ++ t.is_a.thing) e),
    )

Law-instruction : Law (graph instruction_at) (MappedText (λ _. item instruction) (UpToFirst (codes "?>"))) Anything
unfolding instruction_at
Law-instruction = Law-mapped (λ _. item instruction) (bracket_at (codes "?>")) Law-instruction_end

never_bad : (bytes : List ℕ) → instruction_at bytes ≡ Err Bad → ⊥
unfolding instruction_at
never_bad bytes e = bracket_not_bad (codes "?>") bytes (mapped_err (λ _. item instruction) (bracket_at (codes "?>") bytes) Bad e)

-- where a closing is cut, a point and the closing complete it
instruction_cut : (bytes tail : List ℕ) → instruction_at bytes ≡ Err Cut → instruction_at (bytes ++ ((46 ∷ codes "?>") ++ tail)) ≡ Ok (item instruction, tail)
unfolding instruction_at
instruction_cut bytes tail e = ap (mapped (λ _. item instruction)) (bracket_completed 46 63 (62 ∷ []) bytes tail (refl, (refl, tt))
    (mapped_err (λ _. item instruction) (bracket_at (codes "?>") bytes) Cut e))

pub Law-question : (first : Bool) → Law (QuestionRead first) (QuestionText first) Anything
Law-question first = record {
  takes = takes;
  again = again;
  more = λ bytes x rest after h.
      let t = takes bytes x rest h in
      let e : t.text ++ (rest ++ after) ≡ bytes ++ after = sym (ap (λ (u : List ℕ). u ++ after) t.parts ∙ append_assoc t.text rest after) in
      subst (λ (u : List ℕ). QuestionRead first u (Ok (x, rest ++ after))) e (again t.text x (rest ++ after) t.is tt);
  bad = bad;
  cut = cut;
  once = once;
}
  where
    -- by whether the bytes are taken for a declaration
    at : (bytes : List ℕ) (r : Read Found) (v : Bool) → (first && goes_on_xml bytes) ≡ v →
        MatchBool v (DeclarationRead (drop 3 bytes) r) (instruction_at bytes ≡ r) → QuestionRead first bytes r
    at bytes r v e h = subst (λ (w : Bool). MatchBool w (DeclarationRead (drop 3 bytes) r) (instruction_at bytes ≡ r)) (sym e) h

    -- the other way: what a reading is in either case
    of : (bytes : List ℕ) (r : Read Found) (v : Bool) → (first && goes_on_xml bytes) ≡ v → QuestionRead first bytes r →
        MatchBool v (DeclarationRead (drop 3 bytes) r) (instruction_at bytes ≡ r)
    of bytes r v e h = subst (λ (w : Bool). MatchBool w (DeclarationRead (drop 3 bytes) r) (instruction_at bytes ≡ r)) e h

    as_xml : (bytes : List ℕ) (r : Read Found) → first ≡ true → BeginsXml bytes → DeclarationRead (drop 3 bytes) r → QuestionRead first bytes r
    as_xml bytes r f b h = at bytes r true (and_from first (goes_on_xml bytes) f (begins_xml bytes b)) h

    no_xml : (bytes : List ℕ) → (first && goes_on_xml bytes) ≡ false → first ≡ true → BeginsXml bytes → ⊥
    no_xml bytes e f b = both_ways (first && goes_on_xml bytes) e (and_from first (goes_on_xml bytes) f (begins_xml bytes b))

    as_other : (bytes : List ℕ) (r : Read Found) → (first ≡ true → BeginsXml bytes → ⊥) → instruction_at bytes ≡ r → QuestionRead first bytes r
    as_other bytes r never h = at bytes r false (false_from_ne_true (first && goes_on_xml bytes)
        (λ e. let b = and_parts first (goes_on_xml bytes) e in never b.0 (xml_begins bytes b.1))) h

    takes_xml : (bytes : List ℕ) (x : Found) (rest : List ℕ) → first ≡ true → BeginsXml bytes → DeclarationRead (drop 3 bytes) (Ok (x, rest)) →
        Taken (QuestionText first) bytes x rest
    takes_xml bytes x rest f b h =
        let t = Law-declaration.takes (drop 3 bytes) x rest h in
        let n = thing_begins t.text x t.is in
        let dropped : drop 3 bytes ≡ b.blank ∷ b.after = ap (λ (u : List ℕ). drop 3 u) b.parts in
        let heads : n.0 ∷ (n.1 ++ rest) ≡ b.blank ∷ b.after = sym (t.parts ∙ ap (λ (u : List ℕ). u ++ rest) n.2) ∙ dropped in
        let same = same_heads n.0 b.blank (n.1 ++ rest) b.after heads in
        record {
          text = codes "xml" ++ t.text;
          is = inl (record {
            only_first = f;
            begins = record { blank = n.0; after = n.1; is = ap is_blank same ∙ b.is; parts = ap (λ (u : List ℕ). codes "xml" ++ u) n.2 };
            thing = t.text;
            is = t.is;
            parts = refl;
          });
          parts = b.parts ∙ ap (λ (u : List ℕ). codes "xml" ++ u) (sym dropped ∙ t.parts);
        }

    takes : (bytes : List ℕ) (x : Found) (rest : List ℕ) → QuestionRead first bytes (Ok (x, rest)) → Taken (QuestionText first) bytes x rest
    takes bytes x rest h = cases (cases_Bool (first && goes_on_xml bytes))
      where
        cases : ((first && goes_on_xml bytes) ≡ true) ⊎ ((first && goes_on_xml bytes) ≡ false) → Taken (QuestionText first) bytes x rest
        cases (inl e) = let b = and_parts first (goes_on_xml bytes) e in takes_xml bytes x rest b.0 (xml_begins bytes b.1) (of bytes (Ok (x, rest)) true e h)
        cases (inr e) =
            let t = Law-instruction.takes bytes x rest (of bytes (Ok (x, rest)) false e h) in
            record {
              text = t.text;
              is = inr (record { up_to = t.is.is; is = t.is.made; no_xml = λ f b. no_xml bytes e f (subst BeginsXml (sym t.parts) (xml_more t.text rest b)) });
              parts = t.parts;
            }

    again : (text : List ℕ) (x : Found) (rest : List ℕ) → QuestionText first text x → Anything rest → QuestionRead first (text ++ rest) (Ok (x, rest))
    again text x rest (inl t) f =
        let dropped : t.thing ++ rest ≡ drop 3 (text ++ rest) = sym (ap (λ (u : List ℕ). drop 3 (u ++ rest)) t.parts) in
        as_xml (text ++ rest) (Ok (x, rest)) t.only_first (xml_more text rest t.begins)
        (subst (λ (u : List ℕ). DeclarationRead u (Ok (x, rest))) dropped (Law-declaration.again t.thing x rest t.is f))
    again text x rest (inr t) f =
        as_other (text ++ rest) (Ok (x, rest)) (λ e b. t.no_xml e (within b)) (Law-instruction.again text x rest (record {
          read = tt;
          is = t.up_to;
          made = t.is;
        }) f)
      where
        -- the closing stands behind `xml` and the white space
        within : BeginsXml (text ++ rest) → BeginsXml text
        within b =
            let e : text ++ rest ≡ t.up_to.inner ++ 63 ∷ 62 ∷ rest = ap (λ (u : List ℕ). u ++ rest) t.up_to.parts
            ∙ append_assoc t.up_to.inner (63 ∷ 62 ∷ []) rest in
            let inner = xml_before 63 t.up_to.inner (62 ∷ rest) (λ h. absurd (omega arith)) (λ h. absurd (omega arith)) (λ h. absurd (omega arith)) refl
            (subst BeginsXml e b) in
            subst BeginsXml (sym t.up_to.parts) (xml_more t.up_to.inner (63 ∷ 62 ∷ []) inner)

    after_xml : (bytes after : List ℕ) → BeginsXml bytes → drop 3 bytes ++ after ≡ drop 3 (bytes ++ after)
    after_xml bytes after b = ap (λ (u : List ℕ). drop 3 u ++ after) b.parts ∙ sym (ap (λ (u : List ℕ). drop 3 (u ++ after)) b.parts)

    bad : (bytes after : List ℕ) → QuestionRead first bytes (Err Bad) → QuestionRead first (bytes ++ after) (Err Bad)
    bad bytes after h = cases (cases_Bool (first && goes_on_xml bytes))
      where
        cases : ((first && goes_on_xml bytes) ≡ true) ⊎ ((first && goes_on_xml bytes) ≡ false) → QuestionRead first (bytes ++ after) (Err Bad)
        cases (inl e) =
            let b = and_parts first (goes_on_xml bytes) e in
            let x = xml_begins bytes b.1 in
            as_xml (bytes ++ after) (Err Bad) b.0 (xml_more bytes after x)
            (subst (λ (u : List ℕ). DeclarationRead u (Err Bad)) (after_xml bytes after x)
            (Law-declaration.bad (drop 3 bytes) after (of bytes (Err Bad) true e h)))
        cases (inr e) = absurd (never_bad bytes (of bytes (Err Bad) false e h))

    cut : (bytes : List ℕ) → QuestionRead first bytes (Err Cut) → GoesOn (QuestionRead first) Anything bytes
    cut bytes h = cases (cases_Bool (first && goes_on_xml bytes))
      where
        cases : ((first && goes_on_xml bytes) ≡ true) ⊎ ((first && goes_on_xml bytes) ≡ false) → GoesOn (QuestionRead first) Anything bytes
        cases (inl e) =
            let b = and_parts first (goes_on_xml bytes) e in
            let x = xml_begins bytes b.1 in
            let g = Law-declaration.cut (drop 3 bytes) (of bytes (Err Cut) true e h) in
            record {
              more = g.more;
              read = g.read;
              whole = λ tail f. as_xml (bytes ++ (g.more ++ tail)) (Ok (g.read, tail)) b.0 (xml_more bytes (g.more ++ tail) x)
                  (subst (λ (u : List ℕ). DeclarationRead u (Ok (g.read, tail))) (after_xml bytes (g.more ++ tail) x) (g.whole tail f));
            }
        cases (inr e) = record {
          more = 46 ∷ codes "?>";
          read = item instruction;
          whole = λ tail f. as_other (bytes ++ ((46 ∷ codes "?>") ++ tail)) (Ok (item instruction, tail))
              (λ k b. no_xml bytes e k (xml_before 46 bytes (codes "?>" ++ tail) (λ q. absurd (omega arith)) (λ q. absurd (omega arith))
              (λ q. absurd (omega arith)) refl b))
              (instruction_cut bytes tail (of bytes (Err Cut) false e h));
        }

    once : (bytes : List ℕ) (r s : Read Found) → QuestionRead first bytes r → QuestionRead first bytes s → r ≡ s
    once bytes r s h k = cases (cases_Bool (first && goes_on_xml bytes))
      where
        cases : ((first && goes_on_xml bytes) ≡ true) ⊎ ((first && goes_on_xml bytes) ≡ false) → r ≡ s
        cases (inl e) = Law-declaration.once (drop 3 bytes) r s (of bytes r true e h) (of bytes s true e k)
        cases (inr e) = Law-instruction.once bytes r s (of bytes r false e h) (of bytes s false e k)

-- ---- tags

abbrev pub StartText : List ℕ → Found → Type 0
StartText = TurnText started IsNameText (TailText Tag)

closes_end_name : (b : ℕ) → (b ≡ 62) ⊎ (b ≡ 47) ⊎ (b ≡ 63) → goes_on_name b ≡ false
closes_end_name b (inl e) = rw e refl
closes_end_name b (inr (inl e)) = rw e refl
closes_end_name b (inr (inr e)) = rw e refl

closing_parts : (b between blanks close tail rest : List ℕ) (head : ℕ) → b ≡ between ++ (blanks ++ close) → between ≡ [] → close ≡ head ∷ tail →
    b ++ rest ≡ blanks ++ head ∷ (tail ++ rest)
closing_parts b between blanks close tail rest head e f g = rw (e, f, g) (simp append_assoc)

gap_parts : (b between gap one others blanks close rest : List ℕ) → b ≡ between ++ (blanks ++ close) → between ≡ gap ++ one ++ others →
    b ++ rest ≡ gap ++ (one ++ (others ++ (blanks ++ (close ++ rest))))
gap_parts b between gap one others blanks close rest e f = rw (e, f) (simp append_assoc)

-- what follows a tag's name ends the name
tail_ends_name : (b : List ℕ) (tail : List Written × Bool) (rest : List ℕ) → TailText Tag b tail → EndsName (b ++ rest)
tail_ends_name b tail rest t = cases tail.0 t.attributes
  where
    cases : (attrs : List Written) → AreAttrs t.between attrs → EndsName (b ++ rest)
    cases [] h =
        let c = closing_begins Tag t.close tail.1 t.closes in
        let e = closing_parts b t.between t.blanks t.close c.tail rest c.head t.parts h c.parts in
        subst EndsName (sym e) (blanks_end_name t.blanks c.head (c.tail ++ rest) t.blank (closes_end_name c.head c.which))
    cases (attr ∷ attrs) h = gap h.0 h.3 h.4 refl
      where
        gap : (blanks : List ℕ) → blanks ≢ [] → AreBlanks blanks → h.0 ≡ blanks → EndsName (b ++ rest)
        gap [] n k e = absurd (n refl)
        gap (c ∷ blanks) n k e =
            let last = h.1 ++ (h.2 ++ (t.blanks ++ (t.close ++ rest))) in
            let whole : b ++ rest ≡ c ∷ (blanks ++ last) = gap_parts b t.between h.0 h.1 h.2 t.blanks t.close rest t.parts h.7
            ∙ ap (λ (u : List ℕ). u ++ last) e in
            record { head = c; tail = blanks ++ last; no_name = blank_no_name c k.0; parts = whole }

Law-start : Law StartRead StartText Anything
Law-start = Law-turn started name_at (Tail Tag) Law-name (Law-tail Tag) (λ b tail rest t f. tail_ends_name b tail rest t) (some_tail Tag)

abbrev pub ClosingTagText : List ℕ → Found → Type 0
ClosingTagText = MappedText (λ name. item (end_tag name)) AfterSlash

Law-closing_tag : Law (graph closing_tag_at) ClosingTagText Anything
unfolding closing_tag_at
Law-closing_tag = Law-mapped (λ name. item (end_tag name)) end_tag_at Law-end_tag

-- ---- all together

abbrev pub MarkupText : Bool → List ℕ → Found → Type 0
MarkupText first = FirstText 63 (QuestionText first) (FirstText 47 ClosingTagText (FirstText 33 BangText StartText))

name_other : (b c : ℕ) → begins_name b ≡ true → begins_name c ≡ false → (b == c) ≡ false
name_other b c h k = false_from_ne_true (b == c) (λ e. both_ways (begins_name c) k (ap begins_name (sym (same_if_eq b c e)) ∙ h))

start_others : (c : ℕ) → begins_name c ≡ false → (text : List ℕ) (found : Found) → StartText text found → OtherFirst c text
start_others c k text found t =
    let e : text ≡ t.x ++ t.b = t.parts ∙ ap (λ (u : List ℕ). u ++ t.b) t.is_a.same in
    let n = name_begins t.x t.b t.is_a.named in
    record { head = n.head; tail = n.tail; other = name_other n.head c n.begins k; parts = e ∙ n.parts }

bang_others : (text : List ℕ) (found : Found) → FirstText 33 BangText StartText text found → OtherFirst 47 text
bang_others text found (inl t) = record { head = 33; tail = t.thing; other = refl; parts = t.parts }
bang_others text found (inr t) = start_others 47 refl text found t

slash_others : (text : List ℕ) (found : Found) → FirstText 47 ClosingTagText (FirstText 33 BangText StartText) text found → OtherFirst 63 text
slash_others text found (inl t) = record { head = 47; tail = t.thing; other = refl; parts = t.parts }
slash_others text found (inr (inl t)) = record { head = 33; tail = t.thing; other = refl; parts = t.parts }
slash_others text found (inr (inr t)) = start_others 63 refl text found t

some_bang : SomeText BangText
some_bang = record {
  text = 45 ∷ some_comment.text;
  read = some_comment.read;
  is = inl (record { thing = some_comment.text; is = some_comment.is; parts = refl });
}

-- `a>`
some_closing_tag : SomeText ClosingTagText
some_closing_tag = record {
  text = codes "a>";
  read = item (end_tag (codes "a"));
  is = record { read = codes "a"; is = record { blanks = []; named = (refl, tt); blank = tt; spelled = refl }; made = refl };
}

-- `?>`
some_question : (first : Bool) → SomeText (QuestionText first)
unfolding instruction_at
some_question first = let t = (Law-question first).takes (codes "?>") (item instruction) [] (reads first) in record {
  text = t.text;
  read = item instruction;
  is = t.is;
}
  where
    ends : instruction_at (codes "?>") ≡ Ok (item instruction, [])
    ends = refl

    reads : (v : Bool) → QuestionRead v (codes "?>") (Ok (item instruction, []))
    reads true = ends
    reads false = ends

pub Law-markup : (first : Bool) → Law (MarkupRead first) (MarkupText first) Anything
Law-markup first = Law-ByFirst 63 (QuestionRead first) (ByFirst 47 (graph closing_tag_at) (ByFirst 33 (graph bang_at) StartRead)) (Law-question first)
    (Law-ByFirst 47 (graph closing_tag_at) (ByFirst 33 (graph bang_at) StartRead) Law-closing_tag
    (Law-ByFirst 33 (graph bang_at) StartRead Law-bang Law-start some_bang (start_others 33 refl)) some_closing_tag bang_others)
    (some_question first) slash_others

-- ---- for the code

pub start_read : (bytes name mid : List ℕ) (attrs : List Written) (empty : Bool) (rest : List ℕ) → name_at bytes ≡ Ok (name, mid) →
    Tail Tag mid (Ok ((attrs, empty), rest)) → StartRead bytes (Ok (item (start_tag name attrs empty), rest))
start_read bytes name mid attrs empty rest e t = subst (λ (r : Read (List ℕ)). InTurn started r (Tail Tag) (Ok (item (start_tag name attrs empty), rest)))
    (sym e) ((attrs, empty), t, refl)

pub declaration_read : (bytes mid : List ℕ) (attr : Written) (attrs : List Written) (empty : Bool) (rest : List ℕ) → skip attr_at bytes ≡ Ok (attr, mid) →
    Tail Declaration mid (Ok ((attrs, empty), rest)) → DeclarationRead bytes (Ok (item (declaration (attr ∷ attrs)), rest))
declaration_read bytes mid attr attrs empty rest e t = subst (λ (r : Read Written). InTurn declared r (Tail Declaration)
    (Ok (item (declaration (attr ∷ attrs)), rest))) (sym e) ((attrs, empty), t, refl)
