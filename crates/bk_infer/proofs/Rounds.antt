-- A round that adds no type is followed by none that does.
use Rattle.std.proofs.Common.{◌≡◌, sym, ap, ◌∙◌, ◌+◌, ◌-◌, ◌≤◌, ℕ, ℤ, zero, suc, List, length, arith}
use Rattle.bk_statics.specs.Typings.{Typing}
use Rattle.bk_statics.specs.Ways.{Way, next_types, rounds, settled}

-- rounds behind one that adds nothing add nothing
stays : (int_max : ℤ) (n : ℕ) (ws : List Way) (typing : Typing) (k : ℕ) → next_types int_max n ws (rounds k int_max n ws typing) ≡ rounds k int_max n ws typing → (j m : ℕ) → m ≡ j + k → rounds m int_max n ws typing ≡ rounds k int_max n ws typing
stays int_max n ws typing k h zero m e =
    let same : m ≡ k = omega arith in
    ap (λ (i : ℕ). rounds i int_max n ws typing) same
stays int_max n ws typing k h (suc j) zero e = absurd (omega arith)
stays int_max n ws typing k h (suc j) (suc m) e = ap (next_types int_max n ws) (stays int_max n ws typing k h j m (omega arith)) ∙ h

-- so they may be left out
settled-early : (int_max : ℤ) (n : ℕ) (ws : List Way) (typing : Typing) (k : ℕ) → k ≤ length ws → next_types int_max n ws (rounds k int_max n ws typing) ≡ rounds k int_max n ws typing → settled int_max n ws typing ≡ rounds k int_max n ws typing
settled-early int_max n ws typing k le h = stays int_max n ws typing k h (length ws - k) (length ws) (omega arith)

-- ---- as the program goes on, r being the types after a round and t those before
pub early : (int_max : ℤ) (n : ℕ) (ws : List Way) (typing t r : Typing) (k : ℕ) → k ≤ length ws → t ≡ rounds k int_max n ws typing → r ≡ next_types int_max n ws t → r ≡ t → t ≡ settled int_max n ws typing
early int_max n ws typing t r k le e next same =
    e ∙ sym (settled-early int_max n ws typing k le (ap (next_types int_max n ws) (sym e) ∙ sym next ∙ same ∙ e))

pub all-rounds : (int_max : ℤ) (n : ℕ) (ws : List Way) (typing t : Typing) (k : ℕ) → k ≡ length ws → t ≡ rounds k int_max n ws typing → t ≡ settled int_max n ws typing
all-rounds int_max n ws typing t k ek e = e ∙ ap (λ (m : ℕ). rounds m int_max n ws typing) ek
