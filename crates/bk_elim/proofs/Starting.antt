-- Steps of the loops that begin and end.
use Rattle.std.proofs.Common.{◌≡◌, ℕ, zero, suc, ◌+◌, ◌-◌, ◌<◌, ◌≤◌, ℤ, pos, true, false, cond, List, [], ◌∷◌, ◌++◌, length, get_or, All, subst, refl, ap, sym, ◌∙◌, arith}
use Rattle.std.specs.Global.{Vec}
use Rattle.std.specs.Ordering.{int_eq}
use borrow.Author.Count.{below_more}
use Rattle.std.proofs.lemmas.Int.{ints}
use Rattle.std.proofs.lemmas.List.{append_assoc, get_or-map}
use Rattle.bk_lin.specs.declared.fact.Fact.{Fact}
use Rattle.bk_lin.specs.Inequality.{Inequality}
use Rattle.bk_lin.specs.Certificate.{inequality_of, inequalities}
use Rattle.bk_elim.specs.Elimination.{entry}
use Rattle.bk_elim.specs.Refutation.{IsSmallSystem}
use Rattle.bk_elim.specs.Rows.{IsStart, parts_from}
use Rattle.bk_elim.specs.Layout.{lists}
use Rattle.bk_elim.proofs.Joining.{length-inequalities}
use Rattle.bk_elim.proofs.Steps.{lists-push}

pub narrow_facts : (width : ℕ) (fs : List Fact) → IsSmallSystem width (inequalities fs) → All (λ (f : Fact). length f.coefs.items ≤ 4) fs
narrow_facts width fs s k d h =
    let e = subst (λ p. length p.coefs ≡ width) (get_or-map inequality_of fs k d (inequality_of d) h) (s.one_width k (inequality_of d) (let e = length-inequalities fs in omega arith)) in
    let f = s.few_atoms in omega arith

get_or-pushed : (xs : List (List ℤ)) (x : List ℤ) (i : ℕ) → i < length xs → get_or (xs ++ x ∷ []) i [] ≡ get_or xs i []
get_or-pushed [] x i h = absurd (omega arith)
get_or-pushed (y ∷ xs) x zero h = refl
get_or-pushed (y ∷ xs) x (suc i) h = get_or-pushed xs x i (omega arith)

get_or-last : (xs : List (List ℤ)) (x : List ℤ) → get_or (xs ++ x ∷ []) (length xs) [] ≡ x
get_or-last [] x = refl
get_or-last (y ∷ xs) x = get_or-last xs x

pub length-lists : (rows : List (Vec ℤ)) → length (lists rows) ≡ length rows
length-lists [] = refl
length-lists (v ∷ rows) = ap suc (length-lists rows)

pub start_more : (ps : List Inequality) (rows more : List (Vec ℤ)) (v : Vec ℤ) (n : ℕ) → length rows ≡ n → more ≡ rows ++ v ∷ [] → ((i : ℕ) → i < n → IsStart ps i (get_or (lists rows) i [])) → IsStart ps n v.items → (i : ℕ) → i < n + 1 → IsStart ps i (get_or (lists more) i [])
start_more ps rows more v n long pushed before here =
    below_more (λ i. IsStart ps i (get_or (lists more) i [])) n
    (λ i h. subst (IsStart ps i) (sym (ap (λ xs. get_or xs i []) (lists-push rows more v pushed) ∙ get_or-pushed (lists rows) v.items i (let e = length-lists rows in omega arith))) (before i h))
    (subst (IsStart ps n) (sym (ap (λ xs. get_or xs n []) (lists-push rows more v pushed) ∙ ap (λ k. get_or (lists rows ++ v.items ∷ []) k []) (sym (length-lists rows ∙ long)) ∙ get_or-last (lists rows) v.items)) here)

int_eq-not : (a : ℤ) → (a ≡ pos 0 → ⊥) → int_eq a (pos 0) ≡ false
int_eq-not a h = grind (arith, ints)

int_eq-is : (a : ℤ) → a ≡ pos 0 → int_eq a (pos 0) ≡ true
int_eq-is a h = grind (arith, ints)

-- one more part
parts_next : (n j : ℕ) (row : List ℤ) → j < n → parts_from (n - j) j row ≡ cond (int_eq (entry row (5 + j)) (pos 0)) (parts_from (n - (j + 1)) (j + 1) row) ((entry row (5 + j), j + 1) ∷ parts_from (n - (j + 1)) (j + 1) row)
parts_next n j row h =
    let a : n - j ≡ suc (n - (j + 1)) = omega arith in
    let b : suc j ≡ j + 1 = omega arith in
    ap (λ m. parts_from m j row) a
    ∙ ap (λ k. cond (int_eq (entry row (5 + j)) (pos 0)) (parts_from (n - (j + 1)) k row) ((entry row (5 + j), k) ∷ parts_from (n - (j + 1)) k row)) b

pub parts_skipped : (n j : ℕ) (row : List ℤ) (parts more whole : List (ℤ × ℕ)) → j < n → entry row (5 + j) ≡ pos 0 → more ≡ parts → parts ++ parts_from (n - j) j row ≡ whole → more ++ parts_from (n - (j + 1)) (j + 1) row ≡ whole
parts_skipped n j row parts more whole h none same before =
    ap (λ xs. xs ++ parts_from (n - (j + 1)) (j + 1) row) same
    ∙ ap (λ xs. parts ++ xs) (sym (parts_next n j row h ∙ ap (λ b. cond b (parts_from (n - (j + 1)) (j + 1) row) ((entry row (5 + j), j + 1) ∷ parts_from (n - (j + 1)) (j + 1) row)) (int_eq-is (entry row (5 + j)) none)))
    ∙ before

pub parts_pushed : (n j : ℕ) (row : List ℤ) (parts more whole : List (ℤ × ℕ)) (t : ℤ) (k : ℕ) → j < n → (entry row (5 + j) ≡ pos 0 → ⊥) → more ≡ parts ++ (t, k) ∷ [] → t ≡ entry row (5 + j) → k ≡ j + 1 → parts ++ parts_from (n - j) j row ≡ whole → more ++ parts_from (n - (j + 1)) (j + 1) row ≡ whole
parts_pushed n j row parts more whole t k h some pushed is number before =
    ap (λ xs. xs ++ parts_from (n - (j + 1)) (j + 1) row) (pushed ∙ ap (λ z. parts ++ (z, k) ∷ []) is ∙ ap (λ m. parts ++ (entry row (5 + j), m) ∷ []) number)
    ∙ append_assoc parts ((entry row (5 + j), j + 1) ∷ []) (parts_from (n - (j + 1)) (j + 1) row)
    ∙ ap (λ xs. parts ++ xs) (sym (parts_next n j row h ∙ ap (λ b. cond b (parts_from (n - (j + 1)) (j + 1) row) ((entry row (5 + j), j + 1) ∷ parts_from (n - (j + 1)) (j + 1) row)) (int_eq-not (entry row (5 + j)) some)))
    ∙ before
