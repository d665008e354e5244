-- What ties a way of reading to the texts that are to be read, and how such laws are put together.
use Rattle.std.proofs.Common.{◌≡◌, ◌⊎◌, ℕ, Bool, true, false, cond, ◌==◌, MatchBool, inl, inr, List, [], ◌∷◌, ◌++◌, Ok, Err, refl, sym, ap, ◌∙◌, subst}
use Rattle.std.proofs.Common.{append_assoc}
use Rattle.railml_text.specs.declared.miss.Miss.{Miss}
use Rattle.railml_text.specs.declared.miss.Miss.TheVariants.{Cut, Bad}
use Rattle.railml_text.specs.Bytes.{is_blank, front, past}
use Rattle.railml_text.specs.Grammar.{AreBlanks}
use Rattle.railml_text.specs.Reading.{Read, done, begins_blank, mapped, in_turn, InTurn, past_gap, by_first, ByFirst, by_class, nothing_at}
use Rattle.railml_text.proofs.RunLemmas.{eq-same, same_if_eq, front-past, front_passes, past_run, past_more, past_all, blank-front, blank-run, blank-more}

-- a front of the bytes is a text of what was read
pub record Taken {X : Type 0} (Is : List ℕ → X → Type 0) (bytes : List ℕ) (read : X) (rest : List ℕ) : Type 0 where
  pub text : List ℕ
  pub is : Is text read
  pub parts : bytes ≡ text ++ rest

-- with more bytes the bytes are read whole, whatever may follow then
pub record GoesOn {X : Type 0} (R : List ℕ → Read X → Type 0) (Follows : List ℕ → Type 0) (bytes : List ℕ) : Type 0 where
  pub more : List ℕ
  pub read : X
  pub whole : (tail : List ℕ) → Follows tail → R (bytes ++ (more ++ tail)) (Ok (read, tail))

-- R reads the texts of Is where what follows is as Follows says, and nothing else: what is read is
-- such a text; such a text is read; with more bytes the same is read, and what was bad stays so;
-- what was cut goes on to such a text; and there is one reading
pub record Law {X : Type 0} (R : List ℕ → Read X → Type 0) (Is : List ℕ → X → Type 0) (Follows : List ℕ → Type 0) : Type 0 where
  pub takes : (bytes : List ℕ) (x : X) (rest : List ℕ) → R bytes (Ok (x, rest)) → Taken Is bytes x rest
  pub again : (text : List ℕ) (x : X) (rest : List ℕ) → Is text x → Follows rest → R (text ++ rest) (Ok (x, rest))
  pub more : (bytes : List ℕ) (x : X) (rest after : List ℕ) → R bytes (Ok (x, rest)) → R (bytes ++ after) (Ok (x, rest ++ after))
  pub bad : (bytes after : List ℕ) → R bytes (Err Bad) → R (bytes ++ after) (Err Bad)
  pub cut : (bytes : List ℕ) → R bytes (Err Cut) → GoesOn R Follows bytes
  pub once : (bytes : List ℕ) (r s : Read X) → R bytes r → R bytes s → r ≡ s

abbrev pub graph : {X : Type 0} → (List ℕ → Read X) → List ℕ → Read X → Type 0
graph f bytes r = f bytes ≡ r

abbrev pub Anything : List ℕ → Type 0
Anything rest = Unit {0}

pub done_rest : {X : Type 0} (x y : X) (rest tail : List ℕ) → done x rest ≡ done y tail → rest ≡ tail
done_rest {X = X} x y rest tail e = ap (λ (v : Read X). rest_of v) e
  where
    rest_of : Read X → List ℕ
    rest_of (Ok p) = p.1
    rest_of (Err m) = []

pub done_read : {X : Type 0} (x y : X) (rest tail : List ℕ) → done x rest ≡ done y tail → x ≡ y
done_read {X = X} x y rest tail e = ap (λ (v : Read X). read_of v) e
  where
    read_of : Read X → X
    read_of (Ok p) = p.0
    read_of (Err m) = x

-- ---- the same by other words

pub Law-same : {X : Type 0} {R S : List ℕ → Read X → Type 0} {Is Js : List ℕ → X → Type 0} {F : List ℕ → Type 0} → Law R Is F
    → ((bytes : List ℕ) (r : Read X) → R bytes r → S bytes r) → ((bytes : List ℕ) (r : Read X) → S bytes r → R bytes r)
    → ((text : List ℕ) (x : X) → Is text x → Js text x) → ((text : List ℕ) (x : X) → Js text x → Is text x) → Law S Js F
Law-same l to from says said = record {
  takes = λ bytes x rest h. let t = l.takes bytes x rest (from bytes (Ok (x, rest)) h) in record { text = t.text; is = says t.text x t.is; parts = t.parts };
  again = λ text x rest h f. to (text ++ rest) (Ok (x, rest)) (l.again text x rest (said text x h) f);
  more = λ bytes x rest after h. to (bytes ++ after) (Ok (x, rest ++ after)) (l.more bytes x rest after (from bytes (Ok (x, rest)) h));
  bad = λ bytes after h. to (bytes ++ after) (Err Bad) (l.bad bytes after (from bytes (Err Bad) h));
  cut = λ bytes h. let c = l.cut bytes (from bytes (Err Cut) h) in record {
    more = c.more;
    read = c.read;
    whole = λ tail f. to (bytes ++ (c.more ++ tail)) (Ok (c.read, tail)) (c.whole tail f);
  };
  once = λ bytes r s h k. l.once bytes r s (from bytes r h) (from bytes s k);
}

pub Law-spelled : {X : Type 0} {R : List ℕ → Read X → Type 0} {Is Js : List ℕ → X → Type 0} {F : List ℕ → Type 0} → Law R Is F
    → ((text : List ℕ) (x : X) → Is text x → Js text x) → ((text : List ℕ) (x : X) → Js text x → Is text x) → Law R Js F
Law-spelled l says said = Law-same l (λ bytes r h. h) (λ bytes r h. h) says said

-- ---- another value of what is read

pub record MappedText {X Y : Type 0} (h : X → Y) (Is : List ℕ → X → Type 0) (text : List ℕ) (y : Y) : Type 0 where
  pub read : X
  pub is : Is text read
  pub made : y ≡ h read

pub mapped_ok : {X Y : Type 0} (h : X → Y) (r : Read X) (y : Y) (rest : List ℕ) → mapped h r ≡ Ok (y, rest) → (x : X) × (r ≡ Ok (x, rest)) × (y ≡ h x)
mapped_ok {X = X} {Y = Y} h (Ok x) y rest e =
    let read : h x.0 ≡ y = ap (λ (v : Read Y). read_of v) e in
    let last : x.1 ≡ rest = ap (λ (v : Read Y). rest_of v) e in
    (x.0, ap (λ (t : List ℕ). ok x.0 t) last, sym read)
  where
    ok : X → List ℕ → Read X
    ok u t = Ok (u, t)

    read_of : Read Y → Y
    read_of (Ok v) = v.0
    read_of (Err m) = y

    rest_of : Read Y → List ℕ
    rest_of (Ok v) = v.1
    rest_of (Err m) = rest
mapped_ok h (Err m) y rest e = absurd cc

pub mapped_err : {X Y : Type 0} (h : X → Y) (r : Read X) (m : Miss) → mapped h r ≡ Err m → r ≡ Err m
mapped_err h (Ok x) m e = absurd cc
mapped_err h (Err n) m e = let k : n ≡ m = cc in ap (λ (v : Miss). Err v) k

pub Law-mapped : {X Y : Type 0} (h : X → Y) (f : List ℕ → Read X) {Is : List ℕ → X → Type 0} {F : List ℕ → Type 0} → Law (graph f) Is F
    → Law (graph (λ bytes. mapped h (f bytes))) (MappedText h Is) F
Law-mapped {X = X} {Y = Y} h f l = record {
  takes = λ bytes y rest e.
      let m = mapped_ok h (f bytes) y rest e in
      let t = l.takes bytes m.0 rest m.1 in
      record { text = t.text; is = record { read = m.0; is = t.is; made = m.2 }; parts = t.parts };
  again = λ text y rest t g. ap (λ (r : Read X). mapped h r) (l.again text t.read rest t.is g) ∙ ap (λ (v : Y). ok v rest) (sym t.made);
  more = λ bytes y rest after e.
      let m = mapped_ok h (f bytes) y rest e in
      ap (λ (r : Read X). mapped h r) (l.more bytes m.0 rest after m.1) ∙ ap (λ (v : Y). ok v (rest ++ after)) (sym m.2);
  bad = λ bytes after e. ap (λ (r : Read X). mapped h r) (l.bad bytes after (mapped_err h (f bytes) Bad e));
  cut = λ bytes e.
      let c = l.cut bytes (mapped_err h (f bytes) Cut e) in
      record { more = c.more; read = h c.read; whole = λ tail g. ap (λ (r : Read X). mapped h r) (c.whole tail g) };
  once = λ bytes r s e k. sym e ∙ k;
}
  where
    ok : Y → List ℕ → Read Y
    ok v t = Ok (v, t)

-- ---- one after another

pub record TurnText {X Y Z : Type 0} (h : X → Y → Z) (Is : List ℕ → X → Type 0) (Js : List ℕ → Y → Type 0) (text : List ℕ) (z : Z) : Type 0 where
  pub a : List ℕ
  pub b : List ℕ
  pub x : X
  pub y : Y
  pub is_a : Is a x
  pub is_b : Js b y
  pub parts : text ≡ a ++ b
  pub made : z ≡ h x y

-- a text of the second
pub record SomeText {Y : Type 0} (Js : List ℕ → Y → Type 0) : Type 0 where
  pub text : List ℕ
  pub read : Y
  pub is : Js text read

pub SomeText-turn : {X Y Z : Type 0} (h : X → Y → Z) {Is : List ℕ → X → Type 0} {Js : List ℕ → Y → Type 0} → SomeText Is → SomeText Js →
    SomeText (TurnText h Is Js)
SomeText-turn h s t = record {
  text = s.text ++ t.text;
  read = h s.read t.read;
  is = record {
    a = s.text;
    b = t.text;
    x = s.read;
    y = t.read;
    is_a = s.is;
    is_b = t.is;
    parts = refl;
    made = refl;
  };
}

pub Law-turn : {X Y Z : Type 0} (h : X → Y → Z) (f : List ℕ → Read X) (S : List ℕ → Read Y → Type 0) {Is : List ℕ → X → Type 0} {Js : List ℕ → Y → Type 0}
    {F G : List ℕ → Type 0}
    → Law (graph f) Is F → Law S Js G → ((b : List ℕ) (y : Y) (rest : List ℕ) → Js b y → G rest → F (b ++ rest)) → SomeText Js
    → Law (λ bytes r. InTurn h (f bytes) S r) (TurnText h Is Js) G
Law-turn {X = X} {Y = Y} {Z = Z} h f S {Is = Is} {Js = Js} {F = F} {G = G} lf ls leads some = record {
  takes = λ bytes z rest t. takes bytes z rest (f bytes) refl t;
  again = again;
  more = λ bytes z rest after t. more bytes z rest after (f bytes) refl t;
  bad = λ bytes after t. bad bytes after (f bytes) refl t;
  cut = λ bytes t. cut bytes (f bytes) refl t;
  once = λ bytes r s t u. once (f bytes) r s t u;
}
  where
    along : (bytes : List ℕ) (r : Read X) (s : Read Z) → f bytes ≡ r → InTurn h r S s → InTurn h (f bytes) S s
    along bytes r s e t = subst (λ (q : Read X). InTurn h q S s) (sym e) t

    takes : (bytes : List ℕ) (z : Z) (rest : List ℕ) (r : Read X) → f bytes ≡ r → InTurn h r S (Ok (z, rest)) → Taken (TurnText h Is Js) bytes z rest
    takes bytes z rest (Err m) e t = absurd cc
    takes bytes z rest (Ok x) e t =
        let a = lf.takes bytes x.0 x.1 e in
        let b = ls.takes x.1 t.0 rest t.1 in
        record {
          text = a.text ++ b.text;
          is = record { a = a.text; b = b.text; x = x.0; y = t.0; is_a = a.is; is_b = b.is; parts = refl; made = t.2 };
          parts = a.parts ∙ ap (λ (u : List ℕ). a.text ++ u) b.parts ∙ sym (append_assoc a.text b.text rest);
        }

    again : (text : List ℕ) (z : Z) (rest : List ℕ) → TurnText h Is Js text z → G rest → InTurn h (f (text ++ rest)) S (Ok (z, rest))
    again text z rest t g =
        let e : f (text ++ rest) ≡ Ok (t.x, t.b ++ rest) = ap f (ap (λ (u : List ℕ). u ++ rest) t.parts ∙ append_assoc t.a t.b rest)
        ∙ lf.again t.a t.x (t.b ++ rest) t.is_a (leads t.b t.y rest t.is_b g) in
        along (text ++ rest) (Ok (t.x, t.b ++ rest)) (Ok (z, rest)) e (t.y, ls.again t.b t.y rest t.is_b g, t.made)

    more : (bytes : List ℕ) (z : Z) (rest after : List ℕ) (r : Read X) → f bytes ≡ r → InTurn h r S (Ok (z, rest)) →
        InTurn h (f (bytes ++ after)) S (Ok (z, rest ++ after))
    more bytes z rest after (Err m) e t = absurd cc
    more bytes z rest after (Ok x) e t = along (bytes ++ after) (Ok (x.0, x.1 ++ after)) (Ok (z, rest ++ after)) (lf.more bytes x.0 x.1 after e)
        (t.0, ls.more x.1 t.0 rest after t.1, t.2)

    bad : (bytes after : List ℕ) (r : Read X) → f bytes ≡ r → InTurn h r S (Err Bad) → InTurn h (f (bytes ++ after)) S (Err Bad)
    bad bytes after (Err m) e t =
        let k : m ≡ Bad = cc in
        along (bytes ++ after) (Err Bad) (Err Bad) (lf.bad bytes after (e ∙ ap (λ (n : Miss). err n) k)) refl
      where
        err : Miss → Read X
        err n = Err n
    bad bytes after (Ok x) e t = along (bytes ++ after) (Ok (x.0, x.1 ++ after)) (Err Bad) (lf.more bytes x.0 x.1 after e) (ls.bad x.1 after t)

    cut : (bytes : List ℕ) (r : Read X) → f bytes ≡ r → InTurn h r S (Err Cut) → GoesOn (λ bytes r. InTurn h (f bytes) S r) G bytes
    cut bytes (Err m) e t =
        let k : m ≡ Cut = cc in
        let c = lf.cut bytes (e ∙ ap (λ (n : Miss). err n) k) in
        record {
          more = c.more ++ some.text;
          read = h c.read some.read;
          whole = λ tail g. along (bytes ++ ((c.more ++ some.text) ++ tail)) (Ok (c.read, some.text ++ tail)) (Ok (h c.read some.read, tail))
              (ap (λ (u : List ℕ). f (bytes ++ u)) (append_assoc c.more some.text tail)
              ∙ c.whole (some.text ++ tail) (leads some.text some.read tail some.is g))
              (some.read, ls.again some.text some.read tail some.is g, refl);
        }
      where
        err : Miss → Read X
        err n = Err n
    cut bytes (Ok x) e t =
        let c = ls.cut x.1 t in
        record {
          more = c.more;
          read = h x.0 c.read;
          whole = λ tail g. along (bytes ++ (c.more ++ tail)) (Ok (x.0, x.1 ++ (c.more ++ tail))) (Ok (h x.0 c.read, tail))
              (lf.more bytes x.0 x.1 (c.more ++ tail) e) (c.read, c.whole tail g, refl);
        }

    once : (q : Read X) (r s : Read Z) → InTurn h q S r → InTurn h q S s → r ≡ s
    once (Err m) r s t u = t ∙ sym u
    once (Ok x) (Ok r) (Ok s) t u =
        let k = ls.once x.1 (Ok (t.0, r.1)) (Ok (u.0, s.1)) t.1 u.1 in
        let made : Read Y → Read Z = λ v. mapped (h x.0) v in
        ap (λ (z : Z). ok z r.1) t.2 ∙ ap made k ∙ ap (λ (z : Z). ok z s.1) (sym u.2)
      where
        ok : Z → List ℕ → Read Z
        ok z l = Ok (z, l)
    once (Ok x) (Ok r) (Err m) t u = let k = ls.once x.1 (Ok (t.0, r.1)) (Err m) t.1 u in absurd cc
    once (Ok x) (Err m) (Ok s) t u = let k = ls.once x.1 (Err m) (Ok (u.0, s.1)) t u.1 in absurd cc
    once (Ok x) (Err m) (Err n) t u = let k = ls.once x.1 (Err m) (Err n) t u in let same : m ≡ n = cc in ap (λ (v : Miss). err v) same
      where
        err : Miss → Read Z
        err v = Err v

-- where the second is a function too
turn_to : {X Y Z : Type 0} (h : X → Y → Z) (r : Read X) (g : List ℕ → Read Y) (s : Read Z) → InTurn h r (graph g) s → in_turn h r g ≡ s
turn_to h (Err m) g s t = sym t
turn_to {Y = Y} {Z = Z} h (Ok x) g (Ok z) t = ap (λ (v : Read Y). mapped (h x.0) v) t.1 ∙ ap (λ (v : Z). ok v z.1) (sym t.2)
  where
    ok : Z → List ℕ → Read Z
    ok v l = Ok (v, l)
turn_to {Y = Y} h (Ok x) g (Err m) t = ap (λ (v : Read Y). mapped (h x.0) v) t

turn_from : {X Y Z : Type 0} (h : X → Y → Z) (r : Read X) (g : List ℕ → Read Y) (s : Read Z) → in_turn h r g ≡ s → InTurn h r (graph g) s
turn_from h (Err m) g s e = sym e
turn_from h (Ok x) g (Ok z) e = let m = mapped_ok (h x.0) (g x.1) z.0 z.1 e in (m.0, m.1, m.2)
turn_from h (Ok x) g (Err m) e = mapped_err (h x.0) (g x.1) m e

pub Law-in_turn : {X Y Z : Type 0} (h : X → Y → Z) (f : List ℕ → Read X) (g : List ℕ → Read Y) {Is : List ℕ → X → Type 0} {Js : List ℕ → Y → Type 0}
    {F G : List ℕ → Type 0}
    → Law (graph f) Is F → Law (graph g) Js G → ((b : List ℕ) (y : Y) (rest : List ℕ) → Js b y → G rest → F (b ++ rest)) → SomeText Js
    → Law (graph (λ bytes. in_turn h (f bytes) g)) (TurnText h Is Js) G
Law-in_turn h f g lf lg leads some = Law-same (Law-turn h f (graph g) lf lg leads some) (λ bytes r t. turn_to h (f bytes) g r t)
    (λ bytes r e. turn_from h (f bytes) g r e) (λ text z t. t) (λ text z t. t)

-- ---- after white space

-- it begins with a byte that is no white space
pub record NoBlankFirst (text : List ℕ) : Type 0 where
  pub head : ℕ
  pub tail : List ℕ
  pub no_blank : is_blank head ≡ false
  pub parts : text ≡ head ∷ tail

pub record GapText {X : Type 0} (Is : Bool → List ℕ → X → Type 0) (text : List ℕ) (x : X) : Type 0 where
  pub blanks : List ℕ
  pub thing : List ℕ
  pub blank : AreBlanks blanks
  pub is : Is (begins_blank blanks) thing x
  pub parts : text ≡ blanks ++ thing

pub Law-gap : {X : Type 0} (f : Bool → List ℕ → Read X) {Is : Bool → List ℕ → X → Type 0} {F : List ℕ → Type 0} → ((v : Bool) → Law (graph (f v)) (Is v) F) →
    ((v : Bool) → f v [] ≡ Err Cut)
    → ((v : Bool) (text : List ℕ) (x : X) → Is v text x → NoBlankFirst text) → Law (graph (past_gap f)) (GapText Is) F
Law-gap {X = X} f {Is = Is} {F = F} l none begins = record {
  takes = λ bytes x rest e.
      let t = (l (begins_blank bytes)).takes (past is_blank bytes) x rest e in
      record {
        text = front is_blank bytes ++ t.text;
        is = record {
          blanks = front is_blank bytes;
          thing = t.text;
          blank = front_passes is_blank bytes;
          is = subst (λ (v : Bool). Is v t.text x) (blank-front bytes)
              t.is;
          parts = refl;
        };
        parts = sym (front-past is_blank bytes) ∙ ap (λ (u : List ℕ). front is_blank bytes ++ u) t.parts
            ∙ sym (append_assoc (front is_blank bytes) t.text rest);
      };
  again = λ text x rest t g.
      let n = begins (begins_blank t.blanks) t.thing x t.is in
      let whole : text ++ rest ≡ t.blanks ++ n.head ∷ (n.tail ++ rest) = ap (λ (u : List ℕ). u ++ rest) t.parts ∙ append_assoc t.blanks t.thing rest
      ∙ ap (λ (u : List ℕ). t.blanks ++ (u ++ rest)) n.parts in
      at (text ++ rest) (begins_blank t.blanks) (t.thing ++ rest) (Ok (x, rest))
      (ap begins_blank whole ∙ blank-run t.blanks n.head (n.tail ++ rest) n.no_blank)
      (ap (past is_blank) whole ∙ past_run is_blank t.blanks n.head (n.tail ++ rest) t.blank n.no_blank ∙ ap (λ (u : List ℕ). u ++ rest) (sym n.parts))
      ((l (begins_blank t.blanks)).again t.thing x rest t.is g);
  more = λ bytes x rest after e. more bytes after (Ok (x, rest)) (Ok (x, rest ++ after)) (past is_blank bytes) refl e (λ h. cc)
      (λ c r h. (l (begins_blank bytes)).more (c ∷ r) x rest after h);
  bad = λ bytes after e. more bytes after (Err Bad) (Err Bad) (past is_blank bytes) refl e (λ h. cc) (λ c r h. (l (begins_blank bytes)).bad (c ∷ r) after h);
  cut = λ bytes e. cut bytes (past is_blank bytes) refl e;
  once = λ bytes r s e k. sym e ∙ k;
}
  where
    at : (bytes : List ℕ) (v : Bool) (rest : List ℕ) (r : Read X) → begins_blank bytes ≡ v → past is_blank bytes ≡ rest → f v rest ≡ r → past_gap f bytes ≡ r
    at bytes v rest r p q e = ap (λ (w : Bool). f w (past is_blank bytes)) p ∙ ap (f v) q ∙ e

    more : (bytes after : List ℕ) (r s : Read X) (p : List ℕ) → past is_blank bytes ≡ p → f (begins_blank bytes) (past is_blank bytes) ≡ r → (Err Cut ≡ r → ⊥) →
        ((c : ℕ) (t : List ℕ) → f (begins_blank bytes) (c ∷ t) ≡ r → f (begins_blank bytes) (c ∷ (t ++ after)) ≡ s)
        → past_gap f (bytes ++ after) ≡ s
    more bytes after r s [] e k never go = absurd (never (sym (none (begins_blank bytes)) ∙ ap (f (begins_blank bytes)) (sym e) ∙ k))
    more bytes after r s (c ∷ t) e k never go = at (bytes ++ after) (begins_blank bytes) (c ∷ (t ++ after)) s (blank-more bytes c t after e)
        (past_more is_blank bytes c t after e) (go c t (ap (f (begins_blank bytes)) (sym e) ∙ k))

    flag : (bytes : List ℕ) (c : ℕ) (rest : List ℕ) → is_blank c ≡ false → begins_blank (bytes ++ c ∷ rest) ≡ begins_blank bytes
    flag bytes c rest n = blank-run bytes c rest n

    cut : (bytes p : List ℕ) → past is_blank bytes ≡ p → past_gap f bytes ≡ Err Cut → GoesOn (graph (past_gap f)) F bytes
    cut bytes [] e k =
        let v = begins_blank bytes in
        let c = (l v).cut [] (none v) in
        record {
          more = c.more;
          read = c.read;
          whole = λ tail g.
              let t = (l v).takes (c.more ++ tail) c.read tail (c.whole tail g) in
              let n = begins v t.text c.read t.is in
              let z : c.more ++ tail ≡ n.head ∷ (n.tail ++ tail) = t.parts ∙ ap (λ (u : List ℕ). u ++ tail) n.parts in
              at (bytes ++ (c.more ++ tail)) v (c.more ++ tail) (Ok (c.read, tail))
              (ap (λ (u : List ℕ). begins_blank (bytes ++ u)) z ∙ flag bytes n.head (n.tail ++ tail) n.no_blank)
              (past_all is_blank bytes (c.more ++ tail) e ∙ ap (past is_blank) z ∙ past_run is_blank [] n.head (n.tail ++ tail) tt n.no_blank ∙ sym z)
              (c.whole tail g);
        }
    cut bytes (b ∷ r) e k =
        let v = begins_blank bytes in
        let c = (l v).cut (b ∷ r) (ap (f v) (sym e) ∙ k) in
        record {
          more = c.more;
          read = c.read;
          whole = λ tail g. at (bytes ++ (c.more ++ tail)) v (b ∷ (r ++ (c.more ++ tail))) (Ok (c.read, tail)) (blank-more bytes b r (c.more ++ tail) e)
              (past_more is_blank bytes b r (c.more ++ tail) e) (c.whole tail g);
        }

-- ---- by the first byte

-- it begins with another byte
pub record OtherFirst (c : ℕ) (text : List ℕ) : Type 0 where
  pub head : ℕ
  pub tail : List ℕ
  pub other : (head == c) ≡ false
  pub parts : text ≡ head ∷ tail

pub record AfterFirst {X : Type 0} (c : ℕ) (Is : List ℕ → X → Type 0) (text : List ℕ) (x : X) : Type 0 where
  pub thing : List ℕ
  pub is : Is thing x
  pub parts : text ≡ c ∷ thing

abbrev pub FirstText : {X : Type 0} → ℕ → (List ℕ → X → Type 0) → (List ℕ → X → Type 0) → List ℕ → X → Type 0
FirstText c Is Js text x = AfterFirst c Is text x ⊎ Js text x

pub Law-ByFirst : {X : Type 0} (c : ℕ) (R S : List ℕ → Read X → Type 0) {Is Js : List ℕ → X → Type 0} {F : List ℕ → Type 0} → Law R Is F → Law S Js F →
    SomeText Is
    → ((text : List ℕ) (x : X) → Js text x → OtherFirst c text) → Law (ByFirst c R S) (FirstText c Is Js) F
Law-ByFirst {X = X} c R S {Is = Is} {Js = Js} {F = F} lr ls some others = record {
  takes = takes;
  again = again;
  more = more;
  bad = bad;
  cut = cut;
  once = once;
}
  where
    takes : (bytes : List ℕ) (x : X) (rest : List ℕ) → ByFirst c R S bytes (Ok (x, rest)) → Taken (FirstText c Is Js) bytes x rest
    takes [] x rest h = absurd cc
    takes (b ∷ bytes) x rest h = choose (b == c) refl h
      where
        choose : (v : Bool) → (b == c) ≡ v → MatchBool v (R bytes (Ok (x, rest))) (S (b ∷ bytes) (Ok (x, rest))) → Taken (FirstText c Is Js) (b ∷ bytes) x rest
        choose true e k =
            let t = lr.takes bytes x rest k in
            record {
              text = c ∷ t.text;
              is = inl (record {
                thing = t.text;
                is = t.is;
                parts = refl;
              });
              parts = ap (λ (d : ℕ). d ∷ bytes) (same_if_eq b c e) ∙ ap (λ (u : List ℕ). c ∷ u) t.parts;
            }
        choose false e k = let t = ls.takes (b ∷ bytes) x rest k in record { text = t.text; is = inr t.is; parts = t.parts }

    first_to : (bytes : List ℕ) (r : Read X) → R bytes r → ByFirst c R S (c ∷ bytes) r
    first_to bytes r h = subst (λ (v : Bool). MatchBool v (R bytes r) (S (c ∷ bytes) r)) (sym (eq-same c)) h

    other_to : (b : ℕ) (bytes : List ℕ) (r : Read X) → (b == c) ≡ false → S (b ∷ bytes) r → ByFirst c R S (b ∷ bytes) r
    other_to b bytes r e h = subst (λ (v : Bool). MatchBool v (R bytes r) (S (b ∷ bytes) r)) (sym e) h

    again : (text : List ℕ) (x : X) (rest : List ℕ) → FirstText c Is Js text x → F rest → ByFirst c R S (text ++ rest) (Ok (x, rest))
    again text x rest (inl t) f = subst (λ (u : List ℕ). ByFirst c R S (u ++ rest) (Ok (x, rest))) (sym t.parts)
        (first_to (t.thing ++ rest) (Ok (x, rest)) (lr.again t.thing x rest t.is f))
    again text x rest (inr j) f =
        let o = others text x j in
        let k = subst (λ (u : List ℕ). S (u ++ rest) (Ok (x, rest))) o.parts (ls.again text x rest j f) in
        subst (λ (u : List ℕ). ByFirst c R S (u ++ rest) (Ok (x, rest))) (sym o.parts) (other_to o.head (o.tail ++ rest) (Ok (x, rest)) o.other k)

    more : (bytes : List ℕ) (x : X) (rest after : List ℕ) → ByFirst c R S bytes (Ok (x, rest)) → ByFirst c R S (bytes ++ after) (Ok (x, rest ++ after))
    more [] x rest after h = absurd cc
    more (b ∷ bytes) x rest after h = choose (b == c) h
      where
        choose : (v : Bool) → MatchBool v (R bytes (Ok (x, rest))) (S (b ∷ bytes) (Ok (x, rest))) →
            MatchBool v (R (bytes ++ after) (Ok (x, rest ++ after))) (S (b ∷ (bytes ++ after)) (Ok (x, rest ++ after)))
        choose true k = lr.more bytes x rest after k
        choose false k = ls.more (b ∷ bytes) x rest after k

    bad : (bytes after : List ℕ) → ByFirst c R S bytes (Err Bad) → ByFirst c R S (bytes ++ after) (Err Bad)
    bad [] after h = absurd cc
    bad (b ∷ bytes) after h = choose (b == c) h
      where
        choose : (v : Bool) → MatchBool v (R bytes (Err Bad)) (S (b ∷ bytes) (Err Bad)) →
            MatchBool v (R (bytes ++ after) (Err Bad)) (S (b ∷ (bytes ++ after)) (Err Bad))
        choose true k = lr.bad bytes after k
        choose false k = ls.bad (b ∷ bytes) after k

    cut : (bytes : List ℕ) → ByFirst c R S bytes (Err Cut) → GoesOn (ByFirst c R S) F bytes
    cut [] h = record {
      more = c ∷ some.text;
      read = some.read;
      whole = λ tail f. first_to (some.text ++ tail) (Ok (some.read, tail))
          (lr.again some.text some.read tail some.is f);
    }
    cut (b ∷ bytes) h = choose (b == c) refl h
      where
        choose : (v : Bool) → (b == c) ≡ v → MatchBool v (R bytes (Err Cut)) (S (b ∷ bytes) (Err Cut)) → GoesOn (ByFirst c R S) F (b ∷ bytes)
        choose true e k =
            let g = lr.cut bytes k in
            record {
              more = g.more;
              read = g.read;
              whole = λ tail f. subst (λ (v : Bool). MatchBool v (R (bytes ++ (g.more ++ tail)) (Ok (g.read, tail)))
                  (S (b ∷ (bytes ++ (g.more ++ tail))) (Ok (g.read, tail)))) (sym e) (g.whole tail f);
            }
        choose false e k =
            let g = ls.cut (b ∷ bytes) k in
            record { more = g.more; read = g.read; whole = λ tail f. other_to b (bytes ++ (g.more ++ tail)) (Ok (g.read, tail)) e (g.whole tail f) }

    once : (bytes : List ℕ) (r s : Read X) → ByFirst c R S bytes r → ByFirst c R S bytes s → r ≡ s
    once [] r s h k = sym h ∙ k
    once (b ∷ bytes) r s h k = choose (b == c) h k
      where
        choose : (v : Bool) → MatchBool v (R bytes r) (S (b ∷ bytes) r) → MatchBool v (R bytes s) (S (b ∷ bytes) s) → r ≡ s
        choose true p q = lr.once bytes r s p q
        choose false p q = ls.once (b ∷ bytes) r s p q

-- where both are functions
first_to_is : {X : Type 0} (c : ℕ) (f g : List ℕ → Read X) (bytes : List ℕ) (r : Read X) → ByFirst c (graph f) (graph g) bytes r → by_first c f g bytes ≡ r
first_to_is c f g [] r h = h
first_to_is {X = X} c f g (b ∷ bytes) r h = choose (b == c) h
  where
    choose : (v : Bool) → MatchBool v (f bytes ≡ r) (g (b ∷ bytes) ≡ r) → cond {A = Read X} v (f bytes) (g (b ∷ bytes)) ≡ r
    choose true k = k
    choose false k = k

first_from_is : {X : Type 0} (c : ℕ) (f g : List ℕ → Read X) (bytes : List ℕ) (r : Read X) → by_first c f g bytes ≡ r → ByFirst c (graph f) (graph g) bytes r
first_from_is c f g [] r h = h
first_from_is {X = X} c f g (b ∷ bytes) r h = choose (b == c) h
  where
    choose : (v : Bool) → cond {A = Read X} v (f bytes) (g (b ∷ bytes)) ≡ r → MatchBool v (f bytes ≡ r) (g (b ∷ bytes) ≡ r)
    choose true k = k
    choose false k = k

pub Law-by_first : {X : Type 0} (c : ℕ) (f g : List ℕ → Read X) {Is Js : List ℕ → X → Type 0} {F : List ℕ → Type 0} → Law (graph f) Is F → Law (graph g) Js F →
    SomeText Is
    → ((text : List ℕ) (x : X) → Js text x → OtherFirst c text) → Law (graph (by_first c f g)) (FirstText c Is Js) F
Law-by_first c f g lf lg some others = Law-same (Law-ByFirst c (graph f) (graph g) lf lg some others) (first_to_is c f g) (first_from_is c f g) (λ text x t. t)
    (λ text x t. t)

-- it begins with a byte that is, or isn't, of the class
pub record ClassFirst (class : ℕ → Bool) (v : Bool) (text : List ℕ) : Type 0 where
  pub head : ℕ
  pub tail : List ℕ
  pub is : class head ≡ v
  pub parts : text ≡ head ∷ tail

abbrev pub EitherText : {X : Type 0} → (List ℕ → X → Type 0) → (List ℕ → X → Type 0) → List ℕ → X → Type 0
EitherText Is Js text x = Is text x ⊎ Js text x

pub Law-by_class : {X : Type 0} (class : ℕ → Bool) (f g : List ℕ → Read X) {Is Js : List ℕ → X → Type 0} {F : List ℕ → Type 0} → Law (graph f) Is F →
    Law (graph g) Js F → SomeText Js
    → ((text : List ℕ) (x : X) → Is text x → ClassFirst class true text) → ((text : List ℕ) (x : X) → Js text x → ClassFirst class false text) →
    Law (graph (by_class class f g)) (EitherText Is Js) F
Law-by_class {X = X} class f g {Is = Is} {Js = Js} {F = F} lf lg some inside outside = record {
  takes = takes;
  again = again;
  more = λ bytes x rest after e. step bytes after (Ok (x, rest)) (Ok (x, rest ++ after)) e (λ h. cc) (λ k. lf.more bytes x rest after k)
      (λ k. lg.more bytes x rest after k);
  bad = λ bytes after e. step bytes after (Err Bad) (Err Bad) e (λ h. cc) (λ k. lf.bad bytes after k) (λ k. lg.bad bytes after k);
  cut = cut;
  once = λ bytes r s e k. sym e ∙ k;
}
  where
    at : (v : Bool) (b : ℕ) (bytes : List ℕ) (r : Read X) → class b ≡ v → cond {A = Read X} v (f (b ∷ bytes)) (g (b ∷ bytes)) ≡ r →
        by_class class f g (b ∷ bytes) ≡ r
    at v b bytes r e h = ap (λ (w : Bool). cond {A = Read X} w (f (b ∷ bytes)) (g (b ∷ bytes))) e ∙ h

    takes : (bytes : List ℕ) (x : X) (rest : List ℕ) → by_class class f g bytes ≡ Ok (x, rest) → Taken (EitherText Is Js) bytes x rest
    takes [] x rest e = absurd cc
    takes (b ∷ bytes) x rest e = choose (class b) e
      where
        choose : (v : Bool) → cond {A = Read X} v (f (b ∷ bytes)) (g (b ∷ bytes)) ≡ Ok (x, rest) → Taken (EitherText Is Js) (b ∷ bytes) x rest
        choose true k = let t = lf.takes (b ∷ bytes) x rest k in record { text = t.text; is = inl t.is; parts = t.parts }
        choose false k = let t = lg.takes (b ∷ bytes) x rest k in record { text = t.text; is = inr t.is; parts = t.parts }

    begun : (v : Bool) (text rest : List ℕ) (r : Read X) → ClassFirst class v text → cond {A = Read X} v (f (text ++ rest)) (g (text ++ rest)) ≡ r →
        by_class class f g (text ++ rest) ≡ r
    begun v text rest r c h =
        let e : text ++ rest ≡ c.head ∷ (c.tail ++ rest) = ap (λ (u : List ℕ). u ++ rest) c.parts in
        ap (by_class class f g) e ∙ at v c.head (c.tail ++ rest) r c.is (ap (λ (u : List ℕ). cond {A = Read X} v (f u) (g u)) (sym e) ∙ h)

    again : (text : List ℕ) (x : X) (rest : List ℕ) → EitherText Is Js text x → F rest → by_class class f g (text ++ rest) ≡ Ok (x, rest)
    again text x rest (inl t) h = begun true text rest (Ok (x, rest)) (inside text x t) (lf.again text x rest t h)
    again text x rest (inr t) h = begun false text rest (Ok (x, rest)) (outside text x t) (lg.again text x rest t h)

    step : (bytes after : List ℕ) (r s : Read X) → by_class class f g bytes ≡ r → (Err Cut ≡ r → ⊥) → (f bytes ≡ r → f (bytes ++ after) ≡ s) →
        (g bytes ≡ r → g (bytes ++ after) ≡ s) → by_class class f g (bytes ++ after) ≡ s
    step [] after r s e never p q = absurd (never e)
    step (b ∷ bytes) after r s e never p q = choose (class b) e
      where
        choose : (v : Bool) → cond {A = Read X} v (f (b ∷ bytes)) (g (b ∷ bytes)) ≡ r →
            cond {A = Read X} v (f (b ∷ (bytes ++ after))) (g (b ∷ (bytes ++ after))) ≡ s
        choose true k = p k
        choose false k = q k

    cut : (bytes : List ℕ) → by_class class f g bytes ≡ Err Cut → GoesOn (graph (by_class class f g)) F bytes
    cut [] e = record { more = some.text; read = some.read; whole = λ tail h. again some.text some.read tail (inr some.is) h }
    cut (b ∷ bytes) e = choose (class b) refl e
      where
        choose : (v : Bool) → class b ≡ v → cond {A = Read X} v (f (b ∷ bytes)) (g (b ∷ bytes)) ≡ Err Cut → GoesOn (graph (by_class class f g)) F (b ∷ bytes)
        choose true c k =
            let o = lf.cut (b ∷ bytes) k in
            record { more = o.more; read = o.read; whole = λ tail h. at true b (bytes ++ (o.more ++ tail)) (Ok (o.read, tail)) c (o.whole tail h) }
        choose false c k =
            let o = lg.cut (b ∷ bytes) k in
            record { more = o.more; read = o.read; whole = λ tail h. at false b (bytes ++ (o.more ++ tail)) (Ok (o.read, tail)) c (o.whole tail h) }

abbrev pub NoText : {X : Type 0} → List ℕ → X → Type 0
NoText text x = ⊥

pub Law-nothing : {X : Type 0} (F : List ℕ → Type 0) → Law (graph (nothing_at {X = X})) NoText F
Law-nothing F = record {
  takes = λ bytes x rest e. absurd cc;
  again = λ text x rest t f. absurd t;
  more = λ bytes x rest after e. absurd cc;
  bad = λ bytes after e. refl;
  cut = λ bytes e. absurd cc;
  once = λ bytes r s e k. sym e ∙ k;
}

pub Law-done : {X : Type 0} (x : X) → Law (graph (done x)) (λ text y. (text ≡ []) × (y ≡ x)) Anything
Law-done {X = X} x = record {
  takes = λ bytes y rest e. record { text = []; is = (refl, sym (done_read x y bytes rest e)); parts = done_rest x y bytes rest e };
  again = λ text y rest t f. ap (λ (u : List ℕ). done x (u ++ rest)) t.0 ∙ ap (λ (v : X). done v rest) (sym t.1);
  more = λ bytes y rest after e. ap (λ (u : List ℕ). done x (u ++ after)) (done_rest x y bytes rest e)
      ∙ ap (λ (v : X). done v (rest ++ after)) (done_read x y bytes rest e);
  bad = λ bytes after e. absurd cc;
  cut = λ bytes e. absurd cc;
  once = λ bytes r s e k. sym e ∙ k;
}
