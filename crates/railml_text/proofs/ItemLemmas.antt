-- The texts that the reading takes after `<` are those of the table of items.
use Rattle.std.proofs.Common.{◌≡◌, ◌≢◌, ℕ, Bool, true, false, cond, codes, List, [], ◌∷◌, ◌++◌, drop, refl, sym, ap, ◌∙◌, subst, append_assoc, arith, inl, inr}
use Rattle.std.proofs.lemmas.Bool.{both_ways}
use Rattle.plan_core.proofs.ListFacts.{same_heads, same_tails}
use Rattle.railml_text.specs.Bytes.{is_blank}
use Rattle.railml_text.specs.Grammar.{AreBlanks, Written, IsDeclaration, IsStartTag, IsEndTag}
use Rattle.railml_text.specs.References.{IsReference}
use Rattle.railml_text.specs.Items.{declaration, instruction, comment, cdata, start_tag, end_tag, reference, chars, IsItem}
use Rattle.railml_text.specs.Reading.{Found, item, doctype}
use Rattle.railml_text.proofs.RunLemmas.{name_no_blank}
use Rattle.railml_text.proofs.ReaderLemmas.{attr_begins}
use Rattle.railml_text.proofs.ReferenceLemmas.{reference_first}
use Rattle.railml_text.proofs.MarkupLemmas.{BangText, DeclarationText, QuestionText, StartText, MarkupText}

-- the bytes after `<` complete this
abbrev pub IsFound : Bool → List ℕ → Found → Type 0
IsFound first text (item shape) = IsItem first (60 ∷ text) shape
IsFound first text doctype = 60 ∷ text ≡ codes "<!DOCTYPE"

-- ---- what is read is in the table

declaration_of : (thing after : List ℕ) (found : Found) (b : ℕ) → DeclarationText thing found → is_blank b ≡ true → thing ≡ b ∷ after → (text : List ℕ) →
    text ≡ 63 ∷ (codes "xml" ++ thing) → IsFound true text found
declaration_of thing after found b t w e text parts = subst (IsFound true text) (sym t.made) (
  refl,
  record {
    between = (t.is_a.blanks ++ t.is_a.thing) ++ t.is_b.between;
    blanks = t.is_b.blanks;
    some = λ h. cc;
    attributes = (t.is_a.blanks, t.is_a.thing, t.is_b.between, gap, t.is_a.blank, t.is_a.is, t.is_b.attributes, refl);
    blank = t.is_b.blank;
    spelled = rw (parts, t.parts, t.is_a.parts, t.is_b.parts, t.is_b.closes.0) (simp append_assoc);
  },
)
  where
    gap : t.is_a.blanks ≢ []
    gap h =
        let a = attr_begins t.is_a.thing t.x t.is_a.is in
        let whole : b ∷ after ≡ a.head ∷ (a.tail ++ t.b) = sym e ∙ t.parts ∙ ap (λ (u : List ℕ). u ++ t.b)
        (t.is_a.parts ∙ ap (λ (u : List ℕ). u ++ t.is_a.thing) h ∙ a.parts) in
        let same : b ≡ a.head = cc in
        both_ways (is_blank a.head) (name_no_blank a.head a.begins) (ap is_blank (sym same) ∙ w)

question_found : (first : Bool) (text thing : List ℕ) (found : Found) → text ≡ 63 ∷ thing → QuestionText first thing found → IsFound first text found
question_found first text thing found e (inl t) =
    let begun : t.thing ≡ t.begins.blank ∷ t.begins.after = ap (λ (u : List ℕ). drop 3 u) (sym t.parts ∙ t.begins.parts) in
    let h = declaration_of t.thing t.begins.after found t.begins.blank t.is t.begins.is begun text (e ∙ ap (λ (u : List ℕ). 63 ∷ u) t.parts) in
    subst (λ (v : Bool). IsFound v text found) (sym t.only_first) h
question_found first text thing found e (inr t) = subst (IsFound first text) (sym t.is) (
  record { inner = t.up_to.inner; spelled = ap (λ (u : List ℕ). 60 ∷ u) (e ∙ ap (λ (u : List ℕ). 63 ∷ u) t.up_to.parts); first = t.up_to.first },
  λ f b. t.no_xml f (record {
    blank = b.blank;
    after = b.after;
    is = b.is;
    parts = ap (λ (u : List ℕ). drop 1 u) (sym e) ∙ ap (λ (u : List ℕ). drop 2 u) b.begins;
  }),
)

bang_found : (first : Bool) (text thing : List ℕ) (found : Found) → text ≡ 33 ∷ thing → BangText thing found → IsFound first text found
bang_found first text thing found e (inl t) = subst (IsFound first text) (sym t.is.made) (record {
  inner = t.is.is_b.inner;
  spelled = rw (e, t.parts, t.is.parts, t.is.is_a, t.is.is_b.parts) refl;
  first = t.is.is_b.first;
})
bang_found first text thing found e (inr (inl t)) = subst (IsFound first text) (sym t.is.made) (record {
  inner = t.is.is_b.inner;
  spelled = rw (e, t.parts, t.is.parts, t.is.is_a, t.is.is_b.parts) refl;
  first = t.is.is_b.first;
})
bang_found first text thing found e (inr (inr (inl t))) = subst (IsFound first text) (sym t.is.made) (rw (e, t.parts, t.is.is) refl)
bang_found first text thing found e (inr (inr (inr n))) = absurd n

start_found : (first : Bool) (text : List ℕ) (found : Found) → StartText text found → IsFound first text found
start_found first text found t = subst (IsFound first text) (sym t.made) (record {
  between = t.is_b.between;
  blanks = t.is_b.blanks;
  named = t.is_a.named;
  attributes = t.is_b.attributes;
  blank = t.is_b.blank;
  spelled = rw (t.parts, t.is_a.same, t.is_b.parts, t.is_b.closes) (simp append_assoc);
})

pub says : (first : Bool) (text : List ℕ) (found : Found) → MarkupText first text found → IsFound first text found
says first text found (inl t) = question_found first text t.thing found t.parts t.is
says first text found (inr (inl t)) = subst (IsFound first text) (sym t.is.made) (subst (λ (u : List ℕ). IsEndTag (60 ∷ u) t.is.read) (sym t.parts) t.is.is)
says first text found (inr (inr (inl t))) = bang_found first text t.thing found t.parts t.is
says first text found (inr (inr (inr t))) = start_found first text found t

-- ---- what is in the table is read

declaration_said : (text : List ℕ) (attrs : List Written) → IsDeclaration (60 ∷ text) attrs → MarkupText true text (item (declaration attrs))
declaration_said text [] i = absurd (i.some refl)
declaration_said text (attr ∷ attrs) i = gap i.attributes.0 refl i.attributes.3 i.attributes.4
  where
    first_attr : List ℕ
    first_attr = i.attributes.0 ++ i.attributes.1

    tail : List ℕ
    tail = i.attributes.2 ++ (i.blanks ++ codes "?>")

    parts : text ≡ 63 ∷ (codes "xml" ++ (first_attr ++ tail))
    parts = same_tails 60 60 text (63 ∷ (codes "xml" ++ (first_attr ++ tail))) (i.spelled ∙ rw i.attributes.7 (simp append_assoc))

    gap : (blanks : List ℕ) → i.attributes.0 ≡ blanks → blanks ≢ [] → AreBlanks blanks → MarkupText true text (item (declaration (attr ∷ attrs)))
    gap [] e n h = absurd (n refl)
    gap (b ∷ blanks) e n h = inl (record {
      thing = codes "xml" ++ (first_attr ++ tail);
      is = inl (record {
        only_first = refl;
        begins = record {
          blank = b;
          after = (blanks ++ i.attributes.1) ++ tail;
          is = h.0;
          parts = ap (λ (u : List ℕ). codes "xml" ++ ((u ++ i.attributes.1) ++ tail)) e;
        };
        thing = first_attr ++ tail;
        is = record {
          a = first_attr;
          b = tail;
          x = attr;
          y = (attrs, false);
          is_a = record { blanks = i.attributes.0; thing = i.attributes.1; blank = i.attributes.4; is = i.attributes.5; parts = refl };
          is_b = record {
            between = i.attributes.2;
            blanks = i.blanks;
            close = codes "?>";
            attributes = i.attributes.6;
            blank = i.blank;
            closes = (refl, refl);
            parts = refl;
          };
          parts = refl;
          made = refl;
        };
        parts = refl;
      });
      parts = parts;
    })

start_said : (first : Bool) (text name : List ℕ) (attrs : List Written) (empty : Bool) → IsStartTag (60 ∷ text) name attrs empty →
    MarkupText first text (item (start_tag name attrs empty))
start_said first text name attrs empty i =
    let close = cond empty (codes "/>") (codes ">") in
    inr (inr (inr (record {
      a = name;
      b = i.between ++ (i.blanks ++ close);
      x = name;
      y = (attrs, empty);
      is_a = record { same = refl; named = i.named };
      is_b = record { between = i.between; blanks = i.blanks; close = close; attributes = i.attributes; blank = i.blank; closes = refl; parts = refl };
      parts = same_tails 60 60 text (name ++ (i.between ++ (i.blanks ++ close))) (i.spelled ∙ simp append_assoc);
      made = refl;
    })))

end_said : (first : Bool) (text name : List ℕ) → IsEndTag (60 ∷ text) name → MarkupText first text (item (end_tag name))
end_said first text name i =
    let thing = name ++ i.blanks ++ codes ">" in
    let parts : text ≡ 47 ∷ thing = same_tails 60 60 text (47 ∷ thing) i.spelled in
    inr (inl (record { thing = thing; is = record { read = name; is = subst (λ (u : List ℕ). IsEndTag (60 ∷ u) name) parts i; made = refl }; parts = parts }))

not_reference : (text : List ℕ) (c : ℕ) → IsReference (60 ∷ text) c → ⊥
not_reference text c r = let f = reference_first (60 ∷ text) c r in let h = same_heads 60 38 text f.0 f.1 in absurd (omega (arith, h))

pub said : (first : Bool) (text : List ℕ) (found : Found) → IsFound first text found → MarkupText first text found
said first text (item (declaration attrs)) i = subst (λ (v : Bool). MarkupText v text (item (declaration attrs))) (sym i.0) (declaration_said text attrs i.1)
said first text (item instruction) i =
    let inner = i.0.inner ++ codes "?>" in
    let parts : text ≡ 63 ∷ inner = same_tails 60 60 text (63 ∷ inner) i.0.spelled in
    inl (record {
      thing = inner;
      is = inr (record {
        up_to = record { inner = i.0.inner; parts = refl; first = i.0.first };
        is = refl;
        no_xml = λ f b. i.1 f (record {
          blank = b.blank;
          after = b.after;
          is = b.is;
          begins = ap (λ (u : List ℕ). 60 ∷ u) parts ∙ ap (λ (u : List ℕ). 60 ∷ 63 ∷ u) b.parts;
        });
      });
      parts = parts;
    })
said first text (item comment) i =
    let inner = i.inner ++ codes "-->" in
    inr (inr (inl (record {
      thing = 45 ∷ 45 ∷ inner;
      is = inl (record {
        thing = 45 ∷ inner;
        is = record {
          a = codes "-";
          b = inner;
          x = tt;
          y = tt;
          is_a = refl;
          is_b = record { inner = i.inner; parts = refl; first = i.first };
          parts = refl;
          made = refl;
        };
        parts = refl;
      });
      parts = same_tails 60 60 text (33 ∷ 45 ∷ 45 ∷ inner) i.spelled;
    })))
said first text (item cdata) i =
    let inner = i.inner ++ codes "]]>" in
    inr (inr (inl (record {
      thing = codes "[CDATA[" ++ inner;
      is = inr (inl (record {
        thing = codes "CDATA[" ++ inner;
        is = record {
          a = codes "CDATA[";
          b = inner;
          x = tt;
          y = tt;
          is_a = refl;
          is_b = record { inner = i.inner; parts = refl; first = i.first };
          parts = refl;
          made = refl;
        };
        parts = refl;
      }));
      parts = same_tails 60 60 text (codes "![CDATA[" ++ inner) i.spelled;
    })))
said first text (item (start_tag name attrs empty)) i = start_said first text name attrs empty i
said first text (item (end_tag name)) i = end_said first text name i
said first text (item reference) i = absurd (not_reference text i.0 i.1)
said first text (item (chars blank)) i = let h : false ≡ true = i.0.within.0 in absurd cc
said first text doctype e = inr (inr (inl (record {
  thing = codes "DOCTYPE";
  is = inr (inr (inl (record { thing = codes "OCTYPE"; is = record { read = tt; is = refl; made = refl }; parts = refl })));
  parts = same_tails 60 60 text (codes "!DOCTYPE") e;
})))
