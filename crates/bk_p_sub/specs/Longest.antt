-- Reading the longest thing of a kind piece by piece.
use Rattle.std.specs.Prelude.{◌≡◌, List, ◌++◌}
use Rattle.bk_form.specs.declared.token.Token.{Token}

-- where the first of the tokens are read: what is written in front of the tokens is, but for what is read, what is written in
-- front of the rest, and what is still to be read makes it
pub record Left {A B : Type 0} (Written : A → List Token → Type 0) (tokens : List Token) (Behind : B →
    List Token → Type 0) (rest : List Token) (make : B → A) : Type 0 where
  pub before : List Token
  pub splits : tokens ≡ before ++ rest
  pub into : (y : B) (back : List Token) → Behind y back → Written (make y) (before ++ back)
  pub only : (x : A) (front after : List Token) → tokens ≡ front ++ after → Written x front →
      (y : B) × (back : List Token) × (x ≡ make y) × (rest ≡ back ++ after) × Behind y back
