-- That `==` and `clone` say what is meant.
-- Public contracts rest on this file: readers must believe it.
use Rattle.std.specs.Prelude.{◌≡◌, ◌↔◌, Bool, IsTrue}

-- the answers of `==` say which two values are equal
abbrev pub DecidesEquality : {A : Type 0} → (A → A → Bool) → Type 0
DecidesEquality {A} eq = (a b : A) → IsTrue (eq a b) ↔ (a ≡ b)

-- what `clone` may return for a value is the value
abbrev pub IsEqualClone : {A : Type 0} → (A → A → Type 0) → Type 0
IsEqualClone {A} is_clone = (a b : A) → is_clone a b → b ≡ a
