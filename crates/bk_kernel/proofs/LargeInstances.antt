-- An instance of a law is too large where the formula that comes in it is.
use Rattle.std.proofs.Common.{◌≡◌, Result, Ok, Err, IsErrAnd, sym, ◌∙◌, subst}
use Rattle.std.specs.Prelude.{Option, Some}
use Rattle.std.specs.Option.{option_map, option_and_then}
use Rattle.bk_form.specs.Formula.{Formula}
use Rattle.bk_arith.proofs.Options.{mapped}
use Rattle.bk_laws.specs.Rows.{Instance}
use Rattle.bk_kernel.specs.Rewriting.{becomes, turned}
use Rattle.bk_kernel.specs.Held.{IsWithinInstance, IsLarge, HasLarge}

-- read from the right it has the same formulas
pub turned-large : (entry : Option Instance) → HasLarge entry → HasLarge (option_map turned entry)
turned-large entry large i e w =
    let k = mapped turned entry i e in
    let v : IsWithinInstance (turned k.0) = subst IsWithinInstance (sym k.2) w in
    large k.0 k.1 (v.0, v.2, v.1)

-- what comes for the old formula
pub becoming-large : (old : Formula) (entry : Option Formula) → IsLarge entry → HasLarge (option_map (becomes old) entry)
becoming-large old entry large i e w =
    let k = mapped (becomes old) entry i e in
    let v : IsWithinInstance (becomes old k.0) = subst IsWithinInstance (sym k.2) w in
    large k.0 k.1 v.2

-- what is made of a part that is there
pub chain-large : {A : Type 0} (made : A → Option Instance) (o : Option A) (x : A) → Some x ≡ o → HasLarge (made x) → HasLarge (option_and_then made o)
chain-large made o x there large = subst (λ p. HasLarge (option_and_then made p)) there large

-- a fault that is handed on
pub handed-on : {V E : Type 0} (r : Result V E) (e f : E) → IsErrAnd r (λ x. x ≡ e) → r ≡ Err f → e ≡ f
handed-on (Ok v) e f h k = absurd h
handed-on (Err g) e f h k = let same : g ≡ f = cc in sym h ∙ same
