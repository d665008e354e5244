-- Literals: a variable, counted from 1, with a sign.
use Rattle.std.specs.Prelude.{◌≤◌, ◌<◌, ◌^◌, ℕ, Bool, true, false, not, cond, ◌+◌, ◌*◌, ◌/◌, ◌%◌, nat_eq, List, [], ◌∷◌}

-- a variable, and whether it stands positively
pub record Literal : Type 0 where
  pub var : ℕ
  pub positive : Bool

-- the literal of a variable and a sign
abbrev pub literal : ℕ → Bool → Literal
literal x sign = record { var = x; positive = sign }

abbrev pub positive_of : ℕ → Literal
positive_of x = literal x true

-- the negative literal of a variable
abbrev pub negative_of : ℕ → Literal
negative_of x = literal x false

-- the negation of a literal
abbrev pub negate : Literal → Literal
negate l = literal l.var (not l.positive)

-- the one word of a literal: twice the variable, and one more where the literal is negative
abbrev pub word_of : Literal → ℕ
word_of l = 2 * l.var + cond l.positive 0 1

-- the literal of a word
abbrev pub literal_at : ℕ → Literal
literal_at word = literal (word / 2) (nat_eq (word % 2) 0)

-- a literal's word, where the variable is 1 to 2^30 - 1
pub record IsWord (word : ℕ) : Type 0 where
  pub from : 2 ≤ word
  pub below : word < 2 ^ 31

abbrev pub same_sign : Bool → Bool → Bool
same_sign true sign = sign
same_sign false sign = not sign

abbrev pub same_literal : Literal → Literal → Bool
same_literal a b = cond (nat_eq a.var b.var) (same_sign a.positive b.positive) false

-- the literal stands in the list
abbrev pub has : List Literal → Literal → Bool
has [] l = false
has (k ∷ ks) l = cond (same_literal k l) true (has ks l)
