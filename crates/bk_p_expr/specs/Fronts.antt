-- The longest thing of a kind that is written in front of tokens.
use Rattle.std.specs.Prelude.{◌≡◌, ◌≤◌, List, ◌++◌, length}
use Rattle.bk_form.specs.declared.token.Token.{Token}

-- this one is written in front of the tokens, the rest stands after it, and no other one in front takes more tokens
pub record Longest {A : Type 0} (Written : A → List Token → Type 0) (tokens : List Token) (x : A) (rest : List Token) : Type 0 where
  pub written : List Token
  pub splits : tokens ≡ written ++ rest
  pub spelled : Written x written
  pub longest : (other : A) (front after : List Token) → tokens ≡ front ++ after → Written other front → length rest ≤ length after

-- none is written in front of the tokens
abbrev pub Nothing : {A : Type 0} → (A → List Token → Type 0) → List Token → Type 0
Nothing {A} Written tokens = (other : A) (front after : List Token) → tokens ≡ front ++ after → Written other front → ⊥
