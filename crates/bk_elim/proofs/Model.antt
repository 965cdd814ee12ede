-- Where the rows that elimination leaves have a solution, so have those that it began with.
use Rattle.std.proofs.Common.{◌≡◌, ℕ, zero, suc, ◌*◌, ◌<◌, ◌≤◌, ℤ, pos, negsuc, ◌+ℤ◌, ◌-ℤ◌, ◌*ℤ◌, ◌≤ℤ◌, ◌<ℤ◌, List, [], ◌∷◌, map, All, refl, ap, sym, ◌∙◌, arith, get_or}
use Rattle.std.proofs.Math.IntN.{zero-*ℤ, *ℤ-zero, *ℤ_comm, +ℤ_idl, +ℤ_idr, suc_ℤ-*ℤ}
use Rattle.std.proofs.lemmas.Int.{ints}
use Rattle.std.proofs.lemmas.List.Elements.{All-contains}
use Rattle.bk_lin.specs.Inequality.{dot}
use Rattle.bk_lin.proofs.Whole.{*ℤ-+ℤ}
use Rattle.bk_lin.proofs.Sound.{dot-sum_of_coefs}
use Rattle.bk_elim.specs.Elimination.{entry, mixed, joined, IsEliminated, IsSolution}
use Rattle.bk_elim.proofs.Ring.{*ℤ_assoc, swap}
use Rattle.bk_elim.proofs.Point.{IsFine, Placed, point}

pub dot-times : (m : ℤ) (cs : List ℤ) (x : ℕ → ℤ) → dot (map (λ c. m *ℤ c) cs) x ≡ m *ℤ dot cs x
dot-times m [] x = sym (*ℤ-zero m)
dot-times m (c ∷ cs) x =
    ap (λ s. s +ℤ dot (map (λ d. m *ℤ d) cs) (λ k. x (suc k))) (sym (*ℤ_assoc m c (x 0)))
    ∙ ap (λ s. m *ℤ (c *ℤ x 0) +ℤ s) (dot-times m cs (λ k. x (suc k)))
    ∙ sym (*ℤ-+ℤ m (c *ℤ x 0) (dot cs (λ k. x (suc k))))

pub dot-mixed : (b a : ℤ) (p q : List ℤ) (x : ℕ → ℤ) → dot (mixed b p a q) x ≡ b *ℤ dot p x +ℤ a *ℤ dot q x
dot-mixed b a p q x =
    dot-sum_of_coefs (map (λ y. b *ℤ y) p) (map (λ y. a *ℤ y) q) x
    ∙ ap (λ w. w +ℤ dot (map (λ y. a *ℤ y) q) x) (dot-times b p x)
    ∙ ap (λ w. b *ℤ dot p x +ℤ w) (dot-times a q x)

-- the values s times those of x, and z more at l
abbrev pub moved : ℤ → ℕ → ℤ → (ℕ → ℤ) → ℕ → ℤ
moved s zero z x zero = s *ℤ x 0 +ℤ z
moved s zero z x (suc k) = s *ℤ x (suc k)
moved s (suc l) z x zero = s *ℤ x 0
moved s (suc l) z x (suc k) = moved s l z (λ j. x (suc j)) k

pub moved-else : (s : ℤ) (l : ℕ) (z : ℤ) (x : ℕ → ℤ) (k : ℕ) → l < k → moved s l z x k ≡ s *ℤ x k
moved-else s zero z x zero h = absurd (omega arith)
moved-else s zero z x (suc k) h = refl
moved-else s (suc l) z x zero h = absurd (omega arith)
moved-else s (suc l) z x (suc k) h = moved-else s l z (λ j. x (suc j)) k (omega arith)

dot-scaled : (s : ℤ) (cs : List ℤ) (x : ℕ → ℤ) → dot cs (λ k. s *ℤ x k) ≡ s *ℤ dot cs x
dot-scaled s [] x = sym (*ℤ-zero s)
dot-scaled s (c ∷ cs) x =
    ap (λ w. w +ℤ dot cs (λ k. s *ℤ x (suc k))) (swap c s (x 0))
    ∙ ap (λ w. s *ℤ (c *ℤ x 0) +ℤ w) (dot-scaled s cs (λ k. x (suc k)))
    ∙ sym (*ℤ-+ℤ s (c *ℤ x 0) (dot cs (λ k. x (suc k))))

regroup : (a b c : ℤ) → (a +ℤ b) +ℤ c ≡ (a +ℤ c) +ℤ b
regroup a b c = omega (arith, ints)

pub dot-moved : (s : ℤ) (l : ℕ) (z : ℤ) (row : List ℤ) (x : ℕ → ℤ) → dot row (moved s l z x) ≡ s *ℤ dot row x +ℤ z *ℤ entry row l
dot-moved s l z [] x =
    sym (ap (λ w. w +ℤ z *ℤ pos 0) (*ℤ-zero s) ∙ ap (λ w. pos 0 +ℤ w) (*ℤ-zero z))
dot-moved s zero z (c ∷ cs) x =
    ap (λ w. w +ℤ dot cs (λ k. s *ℤ x (suc k))) (*ℤ-+ℤ c (s *ℤ x 0) z)
    ∙ regroup (c *ℤ (s *ℤ x 0)) (c *ℤ z) (dot cs (λ k. s *ℤ x (suc k)))
    ∙ ap (λ w. w +ℤ c *ℤ z) (dot-scaled s (c ∷ cs) x)
    ∙ ap (λ w. s *ℤ dot (c ∷ cs) x +ℤ w) (*ℤ_comm c z)
dot-moved s (suc l) z (c ∷ cs) x =
    ap (λ w. w +ℤ dot cs (moved s l z (λ k. x (suc k)))) (swap c s (x 0))
    ∙ ap (λ w. s *ℤ (c *ℤ x 0) +ℤ w) (dot-moved s l z cs (λ k. x (suc k)))
    ∙ regroup_more (s *ℤ (c *ℤ x 0)) (s *ℤ dot cs (λ k. x (suc k))) (z *ℤ entry cs l)
    ∙ ap (λ w. w +ℤ z *ℤ entry cs l) (sym (*ℤ-+ℤ s (c *ℤ x 0) (dot cs (λ k. x (suc k)))))
  where
    regroup_more : (a b c : ℤ) → a +ℤ (b +ℤ c) ≡ (a +ℤ b) +ℤ c
    regroup_more a b c = omega (arith, ints)

positive-*ℤ : (a b : ℤ) → pos 0 <ℤ a → pos 0 <ℤ b → pos 0 <ℤ (a *ℤ b)
positive-*ℤ (pos zero) (pos b) h k = absurd (omega (arith, ints))
positive-*ℤ (pos (suc a)) (pos b) h k = let more : b ≤ suc a * b = omega arith in omega (arith, ints)
positive-*ℤ (pos a) (negsuc b) h k = absurd (omega (arith, ints))
positive-*ℤ (negsuc a) b h k = absurd (omega (arith, ints))

-- rows whose entries at l and whose values agree have a solution
pub solved : (n l : ℕ) (x : ℕ → ℤ) (rows : List (List ℤ)) → l < n → pos 0 <ℤ x n → ((k : ℕ) → n < k → x k ≡ pos 0) → IsFine (λ r. entry r l) (λ r. dot r x) rows → (y : ℕ → ℤ) × IsSolution n y rows
solved n l x rows below positive beyond fine =
    let at : Placed (λ r. entry r l) (λ r. dot r x) rows = point (λ r. entry r l) (λ r. dot r x) rows fine in (
      moved at.1 l at.0 x,
      record {
        positive = (let e : moved at.1 l at.0 x n ≡ at.1 *ℤ x n = moved-else at.1 l at.0 x n below in let f : pos 0 <ℤ (at.1 *ℤ x n) = positive-*ℤ at.1 (x n) at.2 positive in omega (arith, ints));
        beyond = λ k h. moved-else at.1 l at.0 x k (omega arith) ∙ ap (λ w. at.1 *ℤ w) (beyond k h) ∙ *ℤ-zero at.1;
        met = λ k e b. (let f : dot (get_or rows k e) (moved at.1 l at.0 x) ≡ at.1 *ℤ dot (get_or rows k e) x +ℤ at.0 *ℤ entry (get_or rows k e) l = dot-moved at.1 l at.0 (get_or rows k e) x in let g = at.3 k e b in omega (arith, ints));
      },
    )

-- one step of elimination
pub IsSolution-eliminated : (n l : ℕ) (rows out : List (List ℤ)) → l < n → IsEliminated l rows out → (x : ℕ → ℤ) → IsSolution n x out → (y : ℕ → ℤ) × IsSolution n y rows
IsSolution-eliminated n l rows out below gone x s =
    solved n l x rows below s.positive s.beyond (record {
      level = λ k e b none. All-contains (λ r. pos 0 ≤ℤ dot r x) out (get_or rows k e) s.met (gone.level k e b none);
      pair = λ k e b j f c up down.
          (let met : pos 0 ≤ℤ dot (joined l (get_or rows k e) (get_or rows j f)) x = All-contains (λ r. pos 0 ≤ℤ dot r x) out (joined l (get_or rows k e) (get_or rows j f)) s.met (gone.pair k e b j f c up down) in
          let same : dot (joined l (get_or rows k e) (get_or rows j f)) x ≡ (pos 0 -ℤ entry (get_or rows j f) l) *ℤ dot (get_or rows k e) x +ℤ entry (get_or rows k e) l *ℤ dot (get_or rows j f) x = dot-mixed (pos 0 -ℤ entry (get_or rows j f) l) (entry (get_or rows k e) l) (get_or rows k e) (get_or rows j f) x in
          omega (arith, ints));
    })

-- ---- the last two atoms
abbrev unit_at : ℕ → ℕ → ℤ
unit_at zero zero = pos 1
unit_at zero (suc k) = pos 0
unit_at (suc n) zero = pos 0
unit_at (suc n) (suc k) = unit_at n k

dot-none : (cs : List ℤ) → dot cs (λ k. pos 0) ≡ pos 0
dot-none [] = refl
dot-none (c ∷ cs) = ap (λ w. w +ℤ dot cs (λ k. pos 0)) (*ℤ-zero c) ∙ +ℤ_idl (dot cs (λ k. pos 0)) ∙ dot-none cs

times_one : (c : ℤ) → c *ℤ pos 1 ≡ c
times_one c = *ℤ_comm c (pos 1) ∙ suc_ℤ-*ℤ (pos 0) c ∙ ap (λ w. w +ℤ c) (zero-*ℤ c) ∙ +ℤ_idl c

dot-unit_at : (row : List ℤ) (n : ℕ) → dot row (unit_at n) ≡ entry row n
dot-unit_at [] n = refl
dot-unit_at (c ∷ cs) zero = ap (λ w. c *ℤ pos 1 +ℤ w) (dot-none cs) ∙ +ℤ_idr (c *ℤ pos 1) ∙ times_one c
dot-unit_at (c ∷ cs) (suc n) = ap (λ w. w +ℤ dot cs (unit_at n)) (*ℤ-zero c) ∙ +ℤ_idl (dot cs (unit_at n)) ∙ dot-unit_at cs n

unit_at-past : (n k : ℕ) → n < k → unit_at n k ≡ pos 0
unit_at-past zero zero h = absurd (omega arith)
unit_at-past zero (suc k) h = refl
unit_at-past (suc n) zero h = absurd (omega arith)
unit_at-past (suc n) (suc k) h = unit_at-past n k (omega arith)

-- where z over s meets, by their last two entries, all rows without atom 2 and each two others joined, the rows have a solution
pub last_two : (z s : ℤ) (rows : List (List ℤ)) → pos 0 <ℤ s → All (λ r. entry r 2 ≡ pos 0 → pos 0 ≤ℤ (s *ℤ entry r 4 +ℤ z *ℤ entry r 3)) rows → All (λ p. All (λ q. pos 0 <ℤ entry p 2 → entry q 2 <ℤ pos 0 → pos 0 ≤ℤ (s *ℤ entry (joined 2 p q) 4 +ℤ z *ℤ entry (joined 2 p q) 3)) rows) rows → (y : ℕ → ℤ) × IsSolution 4 y rows
last_two z s rows positive level pair =
    let x : ℕ → ℤ = moved s 3 z (unit_at 4) in
    let worth : (r : List ℤ) → dot r x ≡ s *ℤ entry r 4 +ℤ z *ℤ entry r 3 = λ r. dot-moved s 3 z r (unit_at 4) ∙ ap (λ w. s *ℤ w +ℤ z *ℤ entry r 3) (dot-unit_at r 4) in
    solved 4 2 x rows (omega arith)
    (let e : x 4 ≡ s *ℤ pos 1 = moved-else s 3 z (unit_at 4) 4 (omega arith) in let f : s *ℤ pos 1 ≡ s = times_one s in omega (arith, ints))
    (λ k h. moved-else s 3 z (unit_at 4) k (omega arith) ∙ ap (λ w. s *ℤ w) (unit_at-past 4 k h) ∙ *ℤ-zero s)
    (record {
      level = λ k e b none. (let f = worth (get_or rows k e) in let g = level k e b none in omega (arith, ints));
      pair = λ k e b j f c up down.
          (let met = pair k e b j f c up down in
          let g = worth (joined 2 (get_or rows k e) (get_or rows j f)) in
          let same : dot (joined 2 (get_or rows k e) (get_or rows j f)) x ≡ (pos 0 -ℤ entry (get_or rows j f) 2) *ℤ dot (get_or rows k e) x +ℤ entry (get_or rows k e) 2 *ℤ dot (get_or rows j f) x = dot-mixed (pos 0 -ℤ entry (get_or rows j f) 2) (entry (get_or rows k e) 2) (get_or rows k e) (get_or rows j f) x in
          omega (arith, ints));
    })
