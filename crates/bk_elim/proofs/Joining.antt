-- Steps of the loops that make rows.
use Rattle.std.proofs.lemmas.Int.{ints, by_lt_z}
use Rattle.std.proofs.Common.{Bool, true, false, IsTrue, ◌↔◌, ◌<ℤ◌, ◌≤ℤ◌, ◌≡◌, ℕ, suc, ◌+◌, ◌<◌, ◌≤◌, ℤ, pos, ◌+ℤ◌, ◌-ℤ◌, ◌*ℤ◌, List, [], ◌∷◌, ◌++◌, take, drop, set, length, get_or, All, refl, ap, sym, ◌∙◌, arith}
use Rattle.std.specs.Int.{w128}
use Rattle.std.specs.Prelude.{FitsSigned}
use Rattle.std.proofs.lemmas.List.{take_more, take_all, drop_all, append-nil, length-set, get_or-set_other, get_or-set_same, get_or_past, get_or-map}
use Rattle.bk_lin.specs.declared.fact.Fact.{Fact}
use Rattle.bk_lin.specs.Inequality.{Inequality}
use Rattle.bk_lin.specs.Certificate.{inequality_of, inequalities}
use Rattle.bk_elim.specs.Rows.{IsStart}
use Rattle.bk_elim.specs.Elimination.{entry, joined}
use Rattle.bk_elim.proofs.Rows.{entry-mixed, length-mixed}

pub fits_same : (x y : ℤ) → x ≡ y → FitsSigned w128 y → FitsSigned w128 x
fits_same x y h f = rw h f

-- one more entry of the joined row
pub joined_more : (l : ℕ) (p q : List ℤ) (k : ℕ) (v : ℤ) (row more : List ℤ) → k < length p → length q ≡ length p → row ≡ take k (joined l p q) → more ≡ row ++ v ∷ [] → v ≡ (pos 0 -ℤ entry q l) *ℤ entry p k +ℤ entry p l *ℤ entry q k → more ≡ take (k + 1) (joined l p q)
joined_more l p q k v row more below same h pushed is =
    pushed ∙ ap (λ r. r ++ v ∷ []) h ∙ ap (λ w. take k (joined l p q) ++ w ∷ []) (is ∙ sym (entry-mixed (pos 0 -ℤ entry q l) (entry p l) p q k))
    ∙ sym (take_more (joined l p q) k (pos 0) (let e = length-mixed (pos 0 -ℤ entry q l) (entry p l) p q (sym same) in omega arith))

pub joined_all : (l : ℕ) (p q : List ℤ) (k : ℕ) → length q ≡ length p → length p ≤ k → take k (joined l p q) ≡ joined l p q
joined_all l p q k same h = take_all k (joined l p q) (let e = length-mixed (pos 0 -ℤ entry q l) (entry p l) p q (sym same) in omega arith)

-- the row of one inequality, as it is written: its coefficients over zeros, its constant and one unit
pub started : (ps : List Inequality) (i : ℕ) (row cs : List ℤ) (c : ℤ) → i < length ps → length row ≡ 5 + length ps → ((k : ℕ) → entry row k ≡ entry cs k) → length cs ≤ 4 → ((d : Inequality) → cs ≡ (get_or ps i d).coefs) → ((d : Inequality) → c ≡ (get_or ps i d).constant) → IsStart ps i (set (set row 4 c) (5 + i) (pos 1))
started ps i row cs c below wide copied short coefs constant = record {
  wide = length-set (set row 4 c) (5 + i) (pos 1) ∙ length-set row 4 c ∙ wide;
  coefs = λ k d h. get_or-set_other (set row 4 c) (5 + i) k (pos 1) (pos 0) (omega arith) ∙ get_or-set_other row 4 k c (pos 0) (omega arith) ∙ copied k ∙ ap (λ xs. entry xs k) (coefs d);
  constant = λ d. get_or-set_other (set row 4 c) (5 + i) 4 (pos 1) (pos 0) (omega arith) ∙ get_or-set_same row 4 c (pos 0) (omega arith) ∙ constant d;
  itself = get_or-set_same (set row 4 c) (5 + i) (pos 1) (pos 0) (let e = length-set row 4 c in omega arith);
  others = λ j h. get_or-set_other (set row 4 c) (5 + i) (5 + j) (pos 1) (pos 0) (λ e. h (omega arith)) ∙ get_or-set_other row 4 (5 + j) c (pos 0) (omega arith) ∙ copied (5 + j) ∙ get_or_past cs (5 + j) (pos 0) (omega arith);
}

-- the inequality of a fact at a place
pub at_fact : (fs : List Fact) (i : ℕ) (f : Fact) → i < length fs → f ≡ get_or fs i f → (d : Inequality) → get_or (inequalities fs) i d ≡ inequality_of f
at_fact fs i f h e d = get_or-map inequality_of fs i f d h ∙ ap inequality_of (sym e)

pub length-inequalities : (fs : List Fact) → length (inequalities fs) ≡ length fs
length-inequalities [] = refl
length-inequalities (f ∷ fs) = ap suc (length-inequalities fs)

-- a whole slice that was lent comes back
pub whole_back : (n : ℕ) (new old : List ℤ) → length new ≡ length old → n ≡ length old → take n (new ++ drop (length new) old) ≡ new
whole_back n new old h k =
    ap (λ xs. take n (new ++ xs)) (drop_all (length new) old (omega arith)) ∙ ap (take n) (append-nil new) ∙ take_all n new (omega arith)

pub short_at : (fs : List Fact) (i : ℕ) (f : Fact) → i < length fs → f ≡ get_or fs i f → All (λ (g : Fact). length g.coefs.items ≤ 4) fs → length f.coefs.items ≤ 4
short_at fs i f h e all =
    let g : length (get_or fs i f).coefs.items ≤ 4 = all i f h in
    let k : length f.coefs.items ≡ length (get_or fs i f).coefs.items = ap (λ (x : Fact). length x.coefs.items) e in
    omega arith

-- a test of two numbers, as one of two equal numbers
pub iff_same : (b : Bool) (x y x' y' : ℤ) → (IsTrue b ↔ (x <ℤ y)) → x ≡ x' → y ≡ y' → IsTrue b ↔ (x' <ℤ y')
iff_same b x y x' y' h e f = (λ t. (let g : x <ℤ y = h.0 t in omega (arith, ints)), λ l. h.1 (omega (arith, ints)))

-- where the test of a strict order fails, the other order holds
pub not_less : (b : Bool) (x y : ℤ) → (IsTrue b ↔ (x <ℤ y)) → b ≡ false → y ≤ℤ x
not_less b x y h e = by_lt_z {P = y ≤ℤ x} x y (λ l. absurd (let t : b ≡ true = h.1 l in cc)) (λ g. g)

pub then_less : (b : Bool) (x y : ℤ) → (IsTrue b ↔ (x <ℤ y)) → b ≡ true → x ≤ℤ y
then_less b x y h e = let g : x <ℤ y = h.0 e in omega (arith, ints)
