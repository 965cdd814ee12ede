-- What the loops have found, put together.
use Rattle.std.proofs.Common.{◌≡◌, ℕ, ◌+◌, ◌<◌, ℤ, pos, ◌+ℤ◌, ◌*ℤ◌, ◌<ℤ◌, ◌≤ℤ◌, Option, List, [], take, length, get_or, All, subst, arith}
use Rattle.std.specs.Global.{Vec}
use Rattle.std.specs.List.{Contains}
use Rattle.std.proofs.lemmas.Int.{ints}
use Rattle.std.proofs.lemmas.List.Elements.{All-map, All-more, All-weaker}
use Rattle.bk_lin.specs.Inequality.{Inequality}
use Rattle.bk_elim.specs.Elimination.{entry, joined, IsEliminated, IsSolution}
use Rattle.bk_elim.specs.Refutation.{IsSmallSystem, Refutes}
use Rattle.bk_elim.specs.Rows.{IsStart}
use Rattle.bk_elim.specs.Bounds.{IsCovered, AreBounds}
use Rattle.bk_elim.specs.Layout.{lists}
use Rattle.bk_elim.proofs.Steps.{IsKept, IsJoined}
use Rattle.bk_elim.proofs.Model.{last_two}
use Rattle.bk_elim.proofs.Covering.{top, under, under-positive, met_if_covered}
use Rattle.bk_elim.proofs.Farkas.{dot_worth, not_refuted}

-- ---- one atom
abbrev pub IsPaired : ℕ → List (Vec ℤ) → List (Vec ℤ) → Vec ℤ → Type 0
IsPaired atom rows out v = pos 0 <ℤ entry v.items atom → All (IsJoined atom v.items out) rows

pub eliminated_by : (atom : ℕ) (rows out : List (Vec ℤ)) → All (IsKept atom out) rows → All (IsPaired atom rows out) rows → IsEliminated atom (lists rows) (lists out)
eliminated_by atom rows out kept paired = record {
  level = All-map (λ r. entry r atom ≡ pos 0 → Contains (lists out) r) (λ (v : Vec ℤ). v.items) rows kept;
  pair = All-map (λ p. All (λ q. pos 0 <ℤ entry p atom → entry q atom <ℤ pos 0 → Contains (lists out) (joined atom p q)) (lists rows)) (λ (v : Vec ℤ). v.items) rows
      (λ k e b. All-map (λ q. pos 0 <ℤ entry (get_or rows k e).items atom → entry q atom <ℤ pos 0 → Contains (lists out) (joined atom (get_or rows k e).items q)) (λ (v : Vec ℤ). v.items) rows
      (λ j f c up down. paired k e b up j f c down));
}

-- ---- the last two atoms
abbrev pub IsLeveled : Option (List ℤ) → Option (List ℤ) → Vec ℤ → Type 0
IsLeveled low high v = entry v.items 2 ≡ pos 0 → IsCovered low high (entry v.items 3) (entry v.items 4)

abbrev pub IsCrossed : List ℤ → Option (List ℤ) → Option (List ℤ) → Vec ℤ → Type 0
IsCrossed p low high v = entry v.items 2 <ℤ pos 0 → IsCovered low high (entry (joined 2 p v.items) 3) (entry (joined 2 p v.items) 4)

abbrev pub IsPassed : List (Vec ℤ) → Option (List ℤ) → Option (List ℤ) → Vec ℤ → Type 0
IsPassed rows low high v = pos 0 <ℤ entry v.items 2 → All (IsCrossed v.items low high) rows

-- the new bounds cover what the old ones did
abbrev pub Keeps : Option (List ℤ) → Option (List ℤ) → Option (List ℤ) → Option (List ℤ) → Type 0
Keeps low high low' high' = (h k : ℤ) → IsCovered low high h k → IsCovered low' high' h k

pub leveled_more : (low high low' high' : Option (List ℤ)) (rows : List (Vec ℤ)) (i : ℕ) (v : Vec ℤ) → Keeps low high low' high' → i < length rows → v ≡ get_or rows i v → All (IsLeveled low high) (take i rows) → IsLeveled low' high' v → All (IsLeveled low' high') (take (i + 1) rows)
leveled_more low high low' high' rows i v keeps below is before here =
    All-more (IsLeveled low' high') rows i v below
    (All-weaker (IsLeveled low high) (IsLeveled low' high') (λ w f none. keeps (entry w.items 3) (entry w.items 4) (f none)) (take i rows) before)
    (subst (IsLeveled low' high') is here)

pub crossed_more : (p : List ℤ) (low high low' high' : Option (List ℤ)) (rows : List (Vec ℤ)) (i : ℕ) (v : Vec ℤ) → Keeps low high low' high' → i < length rows → v ≡ get_or rows i v → All (IsCrossed p low high) (take i rows) → IsCrossed p low' high' v → All (IsCrossed p low' high') (take (i + 1) rows)
crossed_more p low high low' high' rows i v keeps below is before here =
    All-more (IsCrossed p low' high') rows i v below
    (All-weaker (IsCrossed p low high) (IsCrossed p low' high') (λ w f down. keeps (entry (joined 2 p w.items) 3) (entry (joined 2 p w.items) 4) (f down)) (take i rows) before)
    (subst (IsCrossed p low' high') is here)

pub leveled_kept : (low high low' high' : Option (List ℤ)) (rows : List (Vec ℤ)) → Keeps low high low' high' → All (IsLeveled low high) rows → All (IsLeveled low' high') rows
leveled_kept low high low' high' rows keeps before =
    All-weaker (IsLeveled low high) (IsLeveled low' high') (λ w f none. keeps (entry w.items 3) (entry w.items 4) (f none)) rows before

pub passed_more : (low high low' high' : Option (List ℤ)) (rows : List (Vec ℤ)) (i : ℕ) (v : Vec ℤ) → Keeps low high low' high' → i < length rows → v ≡ get_or rows i v → All (IsPassed rows low high) (take i rows) → IsPassed rows low' high' v → All (IsPassed rows low' high') (take (i + 1) rows)
passed_more low high low' high' rows i v keeps below is before here =
    All-more (IsPassed rows low' high') rows i v below
    (All-weaker (IsPassed rows low high) (IsPassed rows low' high') (λ w f up. All-weaker (IsCrossed w.items low high) (IsCrossed w.items low' high') (λ u g down. keeps (entry (joined 2 w.items u.items) 3) (entry (joined 2 w.items u.items) 4) (g down)) rows (f up)) (take i rows) before)
    (subst (IsPassed rows low' high') is here)

pub ended : (ps : List Inequality) (low high : Option (List ℤ)) (rows : List (Vec ℤ)) → AreBounds ps low high → All (IsLeveled low high) rows → All (IsPassed rows low high) rows → (y : ℕ → ℤ) × IsSolution 4 y (lists rows)
ended ps low high rows b level passed =
    last_two (top low high) (under low high) (lists rows) (under-positive low high b.up b.down)
    (All-map (λ r. entry r 2 ≡ pos 0 → pos 0 ≤ℤ (under low high *ℤ entry r 4 +ℤ top low high *ℤ entry r 3)) (λ (v : Vec ℤ). v.items) rows
    (λ k e c none. met_if_covered low high (get_or rows k e).items b.up b.down b.agreed (level k e c none)))
    (All-map (λ p. All (λ q. pos 0 <ℤ entry p 2 → entry q 2 <ℤ pos 0 → pos 0 ≤ℤ (under low high *ℤ entry (joined 2 p q) 4 +ℤ top low high *ℤ entry (joined 2 p q) 3)) (lists rows)) (λ (v : Vec ℤ). v.items) rows
    (λ k e c. All-map (λ q. pos 0 <ℤ entry (get_or rows k e).items 2 → entry q 2 <ℤ pos 0 → pos 0 ≤ℤ (under low high *ℤ entry (joined 2 (get_or rows k e).items q) 4 +ℤ top low high *ℤ entry (joined 2 (get_or rows k e).items q) 3)) (λ (v : Vec ℤ). v.items) rows
    (λ j f d up down. met_if_covered low high (joined 2 (get_or rows k e).items (get_or rows j f).items) b.up b.down b.agreed (passed k e c up j f d down))))

-- ---- the whole
pub none_refutes : (width : ℕ) (ps : List Inequality) (rows : List (List ℤ)) (x : ℕ → ℤ) → IsSmallSystem width ps → length rows ≡ length ps → ((i : ℕ) → i < length ps → IsStart ps i (get_or rows i [])) → IsSolution 4 x rows → (ms : List ℕ) → Refutes width ps ms → ⊥
none_refutes width ps rows x small same start s ms =
    not_refuted x (x 4) width ps ms s.positive
    (λ k d h. (let met = s.met k [] (omega arith) in
    let e = dot_worth (get_or rows k []) (get_or ps k d) x (let o = small.one_width k d h in let f = small.few_atoms in omega arith)
    (λ j b. (start k h).coefs j d b) ((start k h).constant d) s.beyond in
    omega (arith, ints)))

-- a loop's step: more rows are there, and those of one more upper row
pub paired_more : (atom : ℕ) (rows out more : List (Vec ℤ)) (i : ℕ) (v : Vec ℤ) → ((r : List ℤ) → Contains (lists out) r → Contains (lists more) r) → i < length rows → v ≡ get_or rows i v → All (IsPaired atom rows out) (take i rows) → IsPaired atom rows more v → All (IsPaired atom rows more) (take (i + 1) rows)
paired_more atom rows out more i v keeps below is before here =
    All-more (IsPaired atom rows more) rows i v below
    (All-weaker (IsPaired atom rows out) (IsPaired atom rows more) (λ w f up. All-weaker (IsJoined atom w.items out) (IsJoined atom w.items more) (λ u g down. keeps (joined atom w.items u.items) (g down)) rows (f up)) (take i rows) before)
    (subst (IsPaired atom rows more) is here)

pub kept_still : (atom : ℕ) (rows out more : List (Vec ℤ)) → ((r : List ℤ) → Contains (lists out) r → Contains (lists more) r) → All (IsKept atom out) rows → All (IsKept atom more) rows
kept_still atom rows out more keeps before = All-weaker (IsKept atom out) (IsKept atom more) (λ w f none. keeps w.items (f none)) rows before
