-- Code goes from its first place to the place behind it. Where L holds, within as many steps as it has instructions.
use Rattle.std.proofs.Common.{◌≡◌, ◌≤◌, ℕ, zero, suc, ◌+◌, ℤ, pos, neg_ℤ, ◌+ℤ◌, List, [], ◌∷◌, ◌++◌, length, refl, ◌∙◌, ap, subst, Bool, true, false, Some, arith}
use Rattle.std.specs.Prelude.{slice_get}
use Rattle.std.proofs.lemmas.Int.{ints}
use Rattle.std.proofs.lemmas.List.{length-append}
use Rattle.bk_code.specs.declared.image.Image.{Image}
use Rattle.bk_code.specs.declared.instruction.Inst.{Inst}
use Rattle.bk_code.specs.declared.instruction.Inst.TheVariants.{Push, Jump, JumpZero}
use Rattle.bk_code.specs.Numbers.{int_max, truth_number}
use Rattle.bk_code.specs.Step.{Config, GoesOn, jumped, executed, row, step}
use Rattle.bk_code.specs.Run.{Leads}
use Rattle.bk_sim.specs.Placed.{Stands}

-- ---- code at a place
get-front : {A : Type 0} (xs ys : List A) (i : ℕ) (x : A) → slice_get xs i ≡ Some x → slice_get (xs ++ ys) i ≡ Some x
get-front {A} [] ys i x h = absurd (cc)
get-front {A} (y ∷ xs) ys zero x h = h
get-front {A} (y ∷ xs) ys (suc i) x h = get-front xs ys i x h

get-behind : {A : Type 0} (xs ys : List A) (i : ℕ) → slice_get (xs ++ ys) (length xs + i) ≡ slice_get ys i
get-behind {A} [] ys i = let none : 0 + i ≡ i = omega arith in ap (slice_get ys) none
get-behind {A} (x ∷ xs) ys i =
    let k : length (x ∷ xs) + i ≡ suc (length xs + i) = omega arith in
    ap (slice_get (x ∷ (xs ++ ys))) k ∙ get-behind xs ys i

module _ (image : Image) where
  pub stands-first : (place : ℕ) (xs ys : List Inst) → Stands image place (xs ++ ys) → Stands image place xs
  stands-first place xs ys h = record { at = λ i inst is. h.at i inst (get-front xs ys i inst is) }

  pub stands-second : (place : ℕ) (xs ys : List Inst) → Stands image place (xs ++ ys) → Stands image (place + length xs) ys
  stands-second place xs ys h = record {
    at = λ i inst is.
        let same : place + length xs + i ≡ place + (length xs + i) = omega arith in
        ap (slice_get image.code) same ∙ h.at (length xs + i) inst (get-behind xs ys i ∙ is);
  }

  pub stands-rest : (place : ℕ) (x : Inst) (xs : List Inst) → Stands image place (x ∷ xs) → Stands image (place + 1) xs
  stands-rest place x xs h = record {
    at = λ i inst is.
        let same : place + 1 + i ≡ place + suc i = omega arith in
        ap (slice_get image.code) same ∙ h.at (suc i) inst is;
  }

  pub stands-here : (place : ℕ) (x : Inst) (xs : List Inst) → Stands image place (x ∷ xs) → slice_get image.code place ≡ Some x
  stands-here place x xs h =
      let same : place ≡ place + 0 = omega arith in
      ap (slice_get image.code) same ∙ h.at 0 x refl

-- ---- steps
abbrev pub here : ℕ → List ℤ → List ℤ → Config
here place stack m = record { place = place; stack = stack; cells = m }

-- one leads to the other, and where L holds within so many steps
pub record Goes (image : Image) (L : Type 0) (size : ℕ) (c d : Config) : Type 0 where
  pub steps : ℕ
  pub few : L → steps ≤ size
  pub leads : Leads image steps c d

-- the code leads from its place to the place behind it, with these numbers on the stack and in the cells
abbrev pub Passes : Image → Type 0 → ℕ → List Inst → List ℤ → List ℤ → List ℤ → List ℤ → Type 0
Passes image L place code stack m after k = Goes image L (length code) (here place stack m) (here (place + length code) after k)

pub goes-if : (image : Image) (K L : Type 0) (size : ℕ) (c d : Config) → (K → L) → Goes image L size c d → Goes image K size c d
goes-if image K L size c d f h = record { steps = h.steps; few = λ k. h.few (f k); leads = h.leads }

pub leads-then : (image : Image) (m n : ℕ) (c d e : Config) → Leads image m c d → Leads image n d e → Leads image (n + m) c e
leads-then image m zero c d e p q =
    let same : m ≡ 0 + m = omega arith in
    subst (λ k. Leads image k c e) same (subst (Leads image m c) q p)
leads-then image m (suc n) c d e p q =
    let same : suc (n + m) ≡ suc n + m = omega arith in
    subst (λ k. Leads image k c e) same (q.0, leads-then image m n c d q.0 p q.1, q.2)

-- the step of an instruction that stands here
pub step-of : (image : Image) (place : ℕ) (inst : Inst) (stack m : List ℤ) → slice_get image.code place ≡ Some inst → step image (here place stack m) ≡ row (int_max image) inst place stack m
step-of image place inst stack m is = ap (λ o. executed (int_max image) o (here place stack m)) is

jump-lands : (at n : ℕ) (stack m : List ℤ) → jumped (pos at +ℤ pos n) stack m ≡ GoesOn (here (at + n) stack m)
jump-lands at n stack m = refl

jump-back : (at n to : ℕ) (stack m : List ℤ) → at ≡ to + n → jumped (pos at +ℤ neg_ℤ (pos n)) stack m ≡ GoesOn (here to stack m)
jump-back at n to stack m h = let same : pos at +ℤ neg_ℤ (pos n) ≡ pos to = omega (arith, ints) in ap (λ z. jumped z stack m) same

-- pops the number of a condition and goes through the first code where it was true, and else through the second
abbrev pub fork_code : List Inst → List Inst → List Inst
fork_code first second = JumpZero (pos (length first + 2)) ∷ first ++ Jump (pos (length second + 1)) ∷ second

-- the code of a loop behind that of its test
abbrev pub turn_code : List Inst → List Inst → List Inst
turn_code test body = JumpZero (pos (length body + 2)) ∷ body ++ Jump (neg_ℤ (pos (length test + 1 + length body))) ∷ []

abbrev pub loop_code : List Inst → List Inst → List Inst
loop_code test body = test ++ turn_code test body

module _ (image : Image) (L : Type 0) where
  pub goes-then : (j k l : ℕ) (c d e : Config) → j + k ≤ l → Goes image L j c d → Goes image L k d e → Goes image L l c e
  goes-then j k l c d e le p q = record {
    steps = q.steps + p.steps;
    few = λ h. let first : p.steps ≤ j = p.few h in let second : q.steps ≤ k = q.few h in omega arith;
    leads = leads-then image p.steps q.steps c d e p.leads q.leads;
  }

  pub stays-here : (size : ℕ) (c : Config) → Goes image L size c c
  stays-here size c = record { steps = 0; few = λ h. omega arith; leads = refl }

  pub one-step : (size : ℕ) (c d : Config) → 1 ≤ size → step image c ≡ GoesOn d → Goes image L size c d
  one-step size c d le is = record { steps = 1; few = λ h. le; leads = (c, refl, is) }

  pub goes-at : (size p q : ℕ) (c : Config) (stack m : List ℤ) → p ≡ q → Goes image L size c (here p stack m) → Goes image L size c (here q stack m)
  goes-at size p q c stack m same h = subst (λ n. Goes image L size c (here n stack m)) same h

  -- one instruction alone
  pub pass-inst : (place : ℕ) (inst : Inst) (stack after m l : List ℤ) → Stands image place (inst ∷ []) → row (int_max image) inst place stack m ≡ GoesOn (here (place + 1) after l) → Passes image L place (inst ∷ []) stack m after l
  pass-inst place inst stack after m l stands is = one-step 1 (here place stack m) (here (place + 1) after l) (omega arith) (step-of image place inst stack m (stands-here image place inst [] stands) ∙ is)

  -- code behind code
  pub pass-then : (place : ℕ) (xs ys : List Inst) (stack mid after : List ℤ) (m k l : List ℤ) → Passes image L place xs stack m mid k → Passes image L (place + length xs) ys mid k after l → Passes image L place (xs ++ ys) stack m after l
  pass-then place xs ys stack mid after m k l first second =
      let long : length (xs ++ ys) ≡ length xs + length ys = length-append xs ys in
      let same : place + length xs + length ys ≡ place + length (xs ++ ys) = omega arith in
      goes-at (length (xs ++ ys)) (place + length xs + length ys) (place + length (xs ++ ys)) (here place stack m) after l same
      (goes-then (length xs) (length ys) (length (xs ++ ys)) (here place stack m) (here (place + length xs) mid k) (here (place + length xs + length ys) after l) (omega arith) first second)

  -- one instruction behind code
  pub pass-one : (place : ℕ) (xs : List Inst) (inst : Inst) (stack mid after : List ℤ) (m k l : List ℤ) → Stands image place (xs ++ inst ∷ []) → Passes image L place xs stack m mid k → ((at : ℕ) → row (int_max image) inst at mid k ≡ GoesOn (here (at + 1) after l)) → Passes image L place (xs ++ inst ∷ []) stack m after l
  pass-one place xs inst stack mid after m k l stands first second =
      pass-then place xs (inst ∷ []) stack mid after m k l first
      (pass-inst (place + length xs) inst mid after k l (stands-second image place xs (inst ∷ []) stands) (second (place + length xs)))

  -- a number is pushed
  pub pass-number : (z : ℤ) (place : ℕ) (stack m : List ℤ) → Stands image place (Push z ∷ []) → Passes image L place (Push z ∷ []) stack m (z ∷ stack) m
  pass-number z place stack m stands = pass-inst place (Push z) stack (z ∷ stack) m m stands refl

  -- ---- forks
  module _ (place : ℕ) (xs ys : List Inst) (stack after m k : List ℤ) where
    -- behind the number of a condition, the code of the branch that it asks for
    pub pass-fork : (b : Bool) → Stands image place (fork_code xs ys) →
        (b ≡ true → Stands image (place + 1) xs → Passes image L (place + 1) xs stack m after k) →
        (b ≡ false → Stands image (place + (length xs + 2)) ys → Passes image L (place + (length xs + 2)) ys stack m after k) →
        Passes image L place (fork_code xs ys) (truth_number b ∷ stack) m after k
    pass-fork true stands first second =
        let rest = stands-rest image place (JumpZero (pos (length xs + 2))) (xs ++ Jump (pos (length ys + 1)) ∷ ys) stands in
        let tail = stands-second image (place + 1) xs (Jump (pos (length ys + 1)) ∷ ys) rest in
        let long : length (xs ++ Jump (pos (length ys + 1)) ∷ ys) ≡ length xs + length (Jump (pos (length ys + 1)) ∷ ys) = length-append xs (Jump (pos (length ys + 1)) ∷ ys) in
        let test : Goes image L 1 (here place (pos 1 ∷ stack) m) (here (place + 1) stack m) = one-step 1 (here place (pos 1 ∷ stack) m) (here (place + 1) stack m) (omega arith)
        (step-of image place (JumpZero (pos (length xs + 2))) (pos 1 ∷ stack) m (stands-here image place (JumpZero (pos (length xs + 2))) (xs ++ Jump (pos (length ys + 1)) ∷ ys) stands)) in
        let way = first refl (stands-first image (place + 1) xs (Jump (pos (length ys + 1)) ∷ ys) rest) in
        let end : Goes image L 1 (here (place + 1 + length xs) after k) (here (place + 1 + length xs + (length ys + 1)) after k) = one-step 1 (here (place + 1 + length xs) after k) (here (place + 1 + length xs + (length ys + 1)) after k) (omega arith)
        (step-of image (place + 1 + length xs) (Jump (pos (length ys + 1))) after k (stands-here image (place + 1 + length xs) (Jump (pos (length ys + 1))) ys tail) ∙ jump-lands (place + 1 + length xs) (length ys + 1) after k) in
        let same : place + 1 + length xs + (length ys + 1) ≡ place + length (fork_code xs ys) = omega arith in
        goes-at (length (fork_code xs ys)) (place + 1 + length xs + (length ys + 1)) (place + length (fork_code xs ys)) (here place (pos 1 ∷ stack) m) after k same
        (goes-then 1 (length xs + 1) (length (fork_code xs ys)) (here place (pos 1 ∷ stack) m) (here (place + 1) stack m) (here (place + 1 + length xs + (length ys + 1)) after k) (omega arith) test
        (goes-then (length xs) 1 (length xs + 1) (here (place + 1) stack m) (here (place + 1 + length xs) after k) (here (place + 1 + length xs + (length ys + 1)) after k) (omega arith) way end))
    pass-fork false stands first second =
        let rest = stands-rest image place (JumpZero (pos (length xs + 2))) (xs ++ Jump (pos (length ys + 1)) ∷ ys) stands in
        let tail = stands-rest image (place + 1 + length xs) (Jump (pos (length ys + 1))) ys (stands-second image (place + 1) xs (Jump (pos (length ys + 1)) ∷ ys) rest) in
        let long : length (xs ++ Jump (pos (length ys + 1)) ∷ ys) ≡ length xs + length (Jump (pos (length ys + 1)) ∷ ys) = length-append xs (Jump (pos (length ys + 1)) ∷ ys) in
        let at : place + 1 + length xs + 1 ≡ place + (length xs + 2) = omega arith in
        let test : Goes image L 1 (here place (pos 0 ∷ stack) m) (here (place + (length xs + 2)) stack m) = one-step 1 (here place (pos 0 ∷ stack) m) (here (place + (length xs + 2)) stack m) (omega arith)
        (step-of image place (JumpZero (pos (length xs + 2))) (pos 0 ∷ stack) m (stands-here image place (JumpZero (pos (length xs + 2))) (xs ++ Jump (pos (length ys + 1)) ∷ ys) stands) ∙ jump-lands place (length xs + 2) stack m) in
        let way = second refl (subst (λ n. Stands image n ys) at tail) in
        let same : place + (length xs + 2) + length ys ≡ place + length (fork_code xs ys) = omega arith in
        goes-at (length (fork_code xs ys)) (place + (length xs + 2) + length ys) (place + length (fork_code xs ys)) (here place (pos 0 ∷ stack) m) after k same
        (goes-then 1 (length ys) (length (fork_code xs ys)) (here place (pos 0 ∷ stack) m) (here (place + (length xs + 2)) stack m) (here (place + (length xs + 2) + length ys) after k) (omega arith) test way)

  -- ---- turns
  module _ (place : ℕ) (test body : List Inst) (stack m : List ℤ) where
    -- the loop ends where the test is false
    pub pass-end : Stands image place (loop_code test body) → (Stands image place test → Passes image L place test stack m (pos 0 ∷ stack) m) → Passes image L place (loop_code test body) stack m stack m
    pass-end stands first =
        let turn = turn_code test body in
        let inner : length (body ++ Jump (neg_ℤ (pos (length test + 1 + length body))) ∷ []) ≡ length body + 1 = length-append body (Jump (neg_ℤ (pos (length test + 1 + length body))) ∷ []) in
        let there = place + length test in
        let out : Goes image L (length turn) (here there (pos 0 ∷ stack) m) (here (there + (length body + 2)) stack m) = one-step (length turn) (here there (pos 0 ∷ stack) m) (here (there + (length body + 2)) stack m) (omega arith)
        (step-of image there (JumpZero (pos (length body + 2))) (pos 0 ∷ stack) m (stands-here image there (JumpZero (pos (length body + 2))) (body ++ Jump (neg_ℤ (pos (length test + 1 + length body))) ∷ []) (stands-second image place test turn stands)) ∙ jump-lands there (length body + 2) stack m) in
        let same : there + (length body + 2) ≡ there + length turn = omega arith in
        pass-then place test turn stack (pos 0 ∷ stack) stack m m m (first (stands-first image place test turn stands)) (goes-at (length turn) (there + (length body + 2)) (there + length turn) (here there (pos 0 ∷ stack) m) stack m same out)

    -- a turn leads back to the loop's place
    pub pass-turn : (k : List ℤ) → Stands image place (loop_code test body) → (Stands image place test → Passes image L place test stack m (pos 1 ∷ stack) m) → (Stands image (place + length test + 1) body → Passes image L (place + length test + 1) body stack m stack k) → Goes image L (length (loop_code test body)) (here place stack m) (here place stack k)
    pass-turn k stands first second =
        let back = Jump (neg_ℤ (pos (length test + 1 + length body))) in
        let turn = turn_code test body in
        let inner : length (body ++ back ∷ []) ≡ length body + 1 = length-append body (back ∷ []) in
        let long : length (test ++ turn) ≡ length test + length turn = length-append test turn in
        let there = place + length test in
        let rest = stands-second image place test turn stands in
        let into : Goes image L 1 (here there (pos 1 ∷ stack) m) (here (there + 1) stack m) = one-step 1 (here there (pos 1 ∷ stack) m) (here (there + 1) stack m) (omega arith)
        (step-of image there (JumpZero (pos (length body + 2))) (pos 1 ∷ stack) m (stands-here image there (JumpZero (pos (length body + 2))) (body ++ back ∷ []) rest)) in
        let inside = stands-rest image there (JumpZero (pos (length body + 2))) (body ++ back ∷ []) rest in
        let way = second (stands-first image (there + 1) body (back ∷ []) inside) in
        let end = there + 1 + length body in
        let same : end ≡ place + (length test + 1 + length body) = omega arith in
        let home : Goes image L 1 (here end stack k) (here place stack k) = one-step 1 (here end stack k) (here place stack k) (omega arith)
        (step-of image end back stack k (stands-here image end back [] (stands-second image (there + 1) body (back ∷ []) inside)) ∙ jump-back end (length test + 1 + length body) place stack k same) in
        goes-then (length test) (1 + (length body + 1)) (length (loop_code test body)) (here place stack m) (here there (pos 1 ∷ stack) m) (here place stack k) (omega arith) (first (stands-first image place test turn stands))
        (goes-then 1 (length body + 1) (1 + (length body + 1)) (here there (pos 1 ∷ stack) m) (here (there + 1) stack m) (here place stack k) (omega arith) into
        (goes-then (length body) 1 (length body + 1) (here (there + 1) stack m) (here end stack k) (here place stack k) (omega arith) way home))
