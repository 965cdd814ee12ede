-- A step of a checked image from a configuration that fits is never stuck, and leads to one that fits.
use Rattle.std.proofs.Common.{◌≡◌, ◌≢◌, ℕ, ◌+◌, ◌-◌, ◌<◌, ◌≤◌, inl, inr, Bool, true, false, refl, sym, ◌∙◌, arith, ℤ, pos, ◌≤ℤ◌, ◌<ℤ◌, List, [], ◌∷◌, length, Some, Result, Ok, Err, get_or}
use Rattle.std.specs.Prelude.{negsuc, ◌+ℤ◌, ◌-ℤ◌, ◌*ℤ◌, neg_ℤ, int_le, int_lt, unsigned_abs, if◌then◌else◌, All, slice_get, slice_set, slice_index}
use Rattle.std.specs.Ordering.{int_eq}
use Rattle.std.proofs.Math.ListN.{length-set}
use Rattle.std.proofs.lemmas.Int.{ints}
use Rattle.std.proofs.lemmas.Option.{slice_get-get_or}
use Rattle.std.proofs.lemmas.Bool.{lt-ltb}
use Rattle.std.proofs.lemmas.List.Elements.{All-cons, All-head, All-tail, All-get_or, All-set}
use Rattle.bk_code.specs.declared.image.Image.{Image}
use Rattle.bk_code.specs.declared.instruction.Inst.{Inst}
use Rattle.bk_code.specs.declared.instruction.Inst.TheVariants.{Push, Load, Store, ALoad, AStore, Add, Sub, Mul, Div, Mod, Neg, Eq, Lt, Le, Not, Jump, JumpZero, Ret}
use Rattle.bk_code.specs.declared.instruction.Trap.{Trap}
use Rattle.bk_code.specs.declared.instruction.Trap.TheVariants.{Index}
use Rattle.bk_code.specs.Numbers.{int_max, IsRange, IsWithin, bounded, quotient, remainder, truth_number}
use Rattle.bk_code.specs.Step.{Config, Outcome, GoesOn, Returns, Traps, Stuck, next, calculated, loaded, stored, jumped, is_index, element_cell, row, step}
use Rattle.bk_code.specs.Checks.{IsGoodInst, IsTarget, IsLeaving, IsNumbered, IsDepths, IsFitting, pops, pushes, FlowsTo}
use Rattle.bk_code.proofs.Ranges.{GivesWithin, bounded_within, quotient_within, remainder_within, truth_within}

-- what an instruction leads to is not stuck, and fits where it goes on
abbrev pub IsSafe : Image → List ℕ → Outcome → Type 0
IsSafe image depths (GoesOn c) = IsFitting image depths c
IsSafe image depths Returns = Unit {0}
IsSafe image depths (Traps kind) = Unit {0}
IsSafe image depths Stuck = ⊥

-- what is known where an instruction is executed
pub record IsHere (image : Image) (depths : List ℕ) (inst : Inst) (at : ℕ) (stack cells : List ℤ) : Type 0 where
  pub range : IsRange (int_max image)
  pub good : IsGoodInst image at inst
  pub stands : at < length image.code
  pub last : at + 1 ≡ length image.code → IsLeaving inst
  pub enough : pops inst ≤ length stack
  pub flows : (to : ℕ) → FlowsTo inst at to → slice_index depths to ≡ length stack - pops inst + pushes inst
  pub stack_range : All (IsWithin (int_max image)) stack
  pub many : length cells ≡ image.cells
  pub cells_range : All (IsWithin (int_max image)) cells

-- the place of a flow of control, with what stands on the stack there
goes : (image : Image) (depths : List ℕ) (inst : Inst) (at to : ℕ) (old new cells written : List ℤ) →
    IsHere image depths inst at old cells → FlowsTo inst at to → to < length image.code →
    length new ≡ length old - pops inst + pushes inst → All (IsWithin (int_max image)) new →
    length written ≡ image.cells → All (IsWithin (int_max image)) written →
    IsFitting image depths (record { place = to; stack = new; cells = written })
goes image depths inst at to old new cells written h flow stands deep range many kept =
    record { place = stands; deep = deep ∙ sym (h.flows to flow); stack = range; many = many; cells = kept }

-- the next place stands, unless control leaves
next_stands : (image : Image) (depths : List ℕ) (inst : Inst) (at : ℕ) (stack cells : List ℤ) →
    IsHere image depths inst at stack cells → (IsLeaving inst → ⊥) → at + 1 < length image.code
next_stands image depths inst at stack cells h stays =
    let le : at < length image.code = h.stands in
    let ne : at + 1 ≢ length image.code = λ e. stays (h.last e) in
    omega arith

-- a fact about a test's result, from the two cases
by_test : (t : Bool) (P : Bool → Type 0) → (t ≡ true → P true) → (t ≡ false → P false) → P t
by_test true P on_true on_false = on_true refl
by_test false P on_true on_false = on_false refl

-- the number under the topmost one lies within the range
second : (image : Image) (a b : ℤ) (rest : List ℤ) → All (IsWithin (int_max image)) (b ∷ a ∷ rest) → IsWithin (int_max image) a
second image a b rest h = All-head (IsWithin (int_max image)) a rest (All-tail (IsWithin (int_max image)) b (a ∷ rest) h)

-- goes on to the next place with the same cells
goes_next : (image : Image) (depths : List ℕ) (inst : Inst) (at : ℕ) (old new cells : List ℤ) →
    IsHere image depths inst at old cells → (IsLeaving inst → ⊥) → FlowsTo inst at (at + 1) →
    length new ≡ length old - pops inst + pushes inst → All (IsWithin (int_max image)) new →
    IsFitting image depths (record { place = at + 1; stack = new; cells = cells })
goes_next image depths inst at old new cells h stays flow deep range =
    goes image depths inst at (at + 1) old new cells cells h flow (next_stands image depths inst at old cells h stays) deep range h.many h.cells_range

calculated_safe : (image : Image) (depths : List ℕ) (at : ℕ) (rest cells : List ℤ) (r : Result ℤ Trap) →
    GivesWithin (int_max image) r →
    ((n : ℤ) → IsWithin (int_max image) n → IsFitting image depths (record { place = at; stack = n ∷ rest; cells = cells })) →
    IsSafe image depths (calculated at rest cells r)
calculated_safe image depths at rest cells (Ok n) range fits = fits n range
calculated_safe image depths at rest cells (Err trap) range fits = tt

-- an operation on the two topmost numbers
two_safe : (image : Image) (depths : List ℕ) (inst : Inst) (at : ℕ) (a b : ℤ) (rest cells : List ℤ) (r : Result ℤ Trap) →
    IsHere image depths inst at (b ∷ a ∷ rest) cells → (IsLeaving inst → ⊥) → FlowsTo inst at (at + 1) →
    pops inst ≡ 2 → pushes inst ≡ 1 → GivesWithin (int_max image) r → IsSafe image depths (calculated (at + 1) rest cells r)
two_safe image depths inst at a b rest cells r h stays flow popped pushed range =
    calculated_safe image depths (at + 1) rest cells r range
    (λ n within. goes_next image depths inst at (b ∷ a ∷ rest) (n ∷ rest) cells h stays flow (rw (popped, pushed) (omega arith))
    (All-cons (IsWithin (int_max image)) n rest within (All-tail (IsWithin (int_max image)) a rest (All-tail (IsWithin (int_max image)) b (a ∷ rest) h.stack_range))))

-- a comparison of the two topmost numbers
compared_safe : (image : Image) (depths : List ℕ) (inst : Inst) (at : ℕ) (a b : ℤ) (rest cells : List ℤ) (t : Bool) →
    IsHere image depths inst at (b ∷ a ∷ rest) cells → (IsLeaving inst → ⊥) → FlowsTo inst at (at + 1) →
    pops inst ≡ 2 → pushes inst ≡ 1 → IsFitting image depths (record { place = at + 1; stack = truth_number t ∷ rest; cells = cells })
compared_safe image depths inst at a b rest cells t h stays flow popped pushed =
    two_safe image depths inst at a b rest cells (Ok (truth_number t)) h stays flow popped pushed (truth_within (int_max image) t h.range.least)

-- an operation on the topmost number
one_safe : (image : Image) (depths : List ℕ) (inst : Inst) (at : ℕ) (a : ℤ) (rest cells : List ℤ) (r : Result ℤ Trap) →
    IsHere image depths inst at (a ∷ rest) cells → (IsLeaving inst → ⊥) → FlowsTo inst at (at + 1) →
    pops inst ≡ 1 → pushes inst ≡ 1 → GivesWithin (int_max image) r → IsSafe image depths (calculated (at + 1) rest cells r)
one_safe image depths inst at a rest cells r h stays flow popped pushed range =
    calculated_safe image depths (at + 1) rest cells r range
    (λ n within. goes_next image depths inst at (a ∷ rest) (n ∷ rest) cells h stays flow (rw (popped, pushed) (omega arith))
    (All-cons (IsWithin (int_max image)) n rest within (All-tail (IsWithin (int_max image)) a rest h.stack_range)))

loaded_safe : (image : Image) (depths : List ℕ) (at slot : ℕ) (rest cells : List ℤ) → slot < length cells →
    All (IsWithin (int_max image)) cells →
    ((n : ℤ) → IsWithin (int_max image) n → IsFitting image depths (record { place = at; stack = n ∷ rest; cells = cells })) →
    IsSafe image depths (loaded at rest cells (slice_get cells slot))
loaded_safe image depths at slot rest cells stands range fits =
    rw (slice_get-get_or cells slot (pos 0) stands)
    (fits (get_or cells slot (pos 0)) (All-get_or (IsWithin (int_max image)) cells slot (pos 0) stands range))

stored_safe : (image : Image) (depths : List ℕ) (inst : Inst) (at slot : ℕ) (n : ℤ) (old rest cells : List ℤ) →
    IsHere image depths inst at old cells → (IsLeaving inst → ⊥) → FlowsTo inst at (at + 1) → slot < length cells →
    length rest ≡ length old - pops inst + pushes inst → All (IsWithin (int_max image)) rest → IsWithin (int_max image) n →
    IsSafe image depths (stored (at + 1) rest cells slot n)
stored_safe image depths inst at slot n old rest cells h stays flow stands deep range within =
    rw (lt-ltb slot (length cells) stands)
    (goes image depths inst at (at + 1) old rest cells (slice_set cells slot n) h flow (next_stands image depths inst at old cells h stays) deep range
    (length-set cells slot n ∙ h.many) (All-set (IsWithin (int_max image)) cells slot n within h.cells_range))

abs-below : (z : ℤ) (count : ℕ) → pos 0 ≤ℤ z → z <ℤ pos count → unsigned_abs z < count
abs-below (pos n) count low high = omega (arith, ints)
abs-below (negsuc n) count low high = absurd (omega (arith, ints))

-- an index of an array lies at or above its least one, and below the one after its last
index_within : (low : ℤ) (count : ℕ) (i : ℤ) → is_index low count i ≡ true → (low ≤ℤ i) × (i <ℤ (low +ℤ pos count))
index_within low count i h = grind (arith, ints)

-- an element's cell is one of its array's
element_stands : (base count cells : ℕ) (low i : ℤ) → base + count ≤ cells → is_index low count i ≡ true → element_cell base low i < cells
element_stands base count cells low i h index =
    let parts = index_within low count i index in
    let below : unsigned_abs (i -ℤ low) < count = abs-below (i -ℤ low) count (omega (arith, ints)) (omega (arith, ints)) in
    omega arith

-- a jump to a target in the code
jumped_safe : (image : Image) (depths : List ℕ) (inst : Inst) (at : ℕ) (target : ℤ) (old rest cells : List ℤ) →
    IsHere image depths inst at old cells → IsTarget image target → ((to : ℕ) → pos to ≡ target → FlowsTo inst at to) →
    length rest ≡ length old - pops inst + pushes inst → All (IsWithin (int_max image)) rest →
    IsSafe image depths (jumped target rest cells)
jumped_safe image depths inst at target old rest cells h aim flow deep range =
    rw aim.is
    (goes image depths inst at aim.place old rest cells cells h (flow aim.place (sym aim.is)) aim.stands deep range h.many h.cells_range)

-- one row of the table
pub row_safe : (image : Image) (depths : List ℕ) (inst : Inst) (at : ℕ) (stack cells : List ℤ) →
    IsHere image depths inst at stack cells → IsSafe image depths (row (int_max image) inst at stack cells)
row_safe image depths (Push n) at stack cells h =
    goes_next image depths (Push n) at stack (n ∷ stack) cells h (λ l. l) refl (omega arith) (All-cons (IsWithin (int_max image)) n stack h.good h.stack_range)
row_safe image depths (Load slot) at stack cells h =
    loaded_safe image depths (at + 1) slot stack cells (rw h.many h.good) h.cells_range
    (λ n within. goes_next image depths (Load slot) at stack (n ∷ stack) cells h (λ l. l) refl (omega arith) (All-cons (IsWithin (int_max image)) n stack within h.stack_range))
row_safe image depths (Store slot) at [] cells h = absurd (omega (arith, h.enough))
row_safe image depths (Store slot) at (n ∷ stack) cells h =
    stored_safe image depths (Store slot) at slot n (n ∷ stack) stack cells h (λ l. l) refl (rw h.many h.good) (omega arith)
    (All-tail (IsWithin (int_max image)) n stack h.stack_range) (All-head (IsWithin (int_max image)) n stack h.stack_range)
row_safe image depths (ALoad base low count) at [] cells h = absurd (omega (arith, h.enough))
row_safe image depths (ALoad base low count) at (i ∷ stack) cells h =
    by_test (is_index low count i) (λ v. IsSafe image depths (if v then loaded (at + 1) stack cells (slice_get cells (element_cell base low i)) else Traps Index))
    (λ index. loaded_safe image depths (at + 1) (element_cell base low i) stack cells (rw h.many (element_stands base count image.cells low i h.good.cells index)) h.cells_range
    (λ n within. goes_next image depths (ALoad base low count) at (i ∷ stack) (n ∷ stack) cells h (λ l. l) refl (omega arith)
    (All-cons (IsWithin (int_max image)) n stack within (All-tail (IsWithin (int_max image)) i stack h.stack_range))))
    (λ other. tt)
row_safe image depths (AStore base low count) at [] cells h = absurd (omega (arith, h.enough))
row_safe image depths (AStore base low count) at (n ∷ []) cells h = absurd (omega (arith, h.enough))
row_safe image depths (AStore base low count) at (n ∷ i ∷ stack) cells h =
    by_test (is_index low count i) (λ v. IsSafe image depths (if v then stored (at + 1) stack cells (element_cell base low i) n else Traps Index))
    (λ index. stored_safe image depths (AStore base low count) at (element_cell base low i) n (n ∷ i ∷ stack) stack cells h (λ l. l) refl
    (rw h.many (element_stands base count image.cells low i h.good.cells index)) (omega arith)
    (All-tail (IsWithin (int_max image)) i stack (All-tail (IsWithin (int_max image)) n (i ∷ stack) h.stack_range)) (All-head (IsWithin (int_max image)) n (i ∷ stack) h.stack_range))
    (λ other. tt)
row_safe image depths Add at [] cells h = absurd (omega (arith, h.enough))
row_safe image depths Add at (b ∷ []) cells h = absurd (omega (arith, h.enough))
row_safe image depths Add at (b ∷ a ∷ stack) cells h = two_safe image depths Add at a b stack cells (bounded (int_max image) (a +ℤ b)) h (λ l. l) refl refl refl (bounded_within (int_max image) (a +ℤ b))
row_safe image depths Sub at [] cells h = absurd (omega (arith, h.enough))
row_safe image depths Sub at (b ∷ []) cells h = absurd (omega (arith, h.enough))
row_safe image depths Sub at (b ∷ a ∷ stack) cells h = two_safe image depths Sub at a b stack cells (bounded (int_max image) (a -ℤ b)) h (λ l. l) refl refl refl (bounded_within (int_max image) (a -ℤ b))
row_safe image depths Mul at [] cells h = absurd (omega (arith, h.enough))
row_safe image depths Mul at (b ∷ []) cells h = absurd (omega (arith, h.enough))
row_safe image depths Mul at (b ∷ a ∷ stack) cells h = two_safe image depths Mul at a b stack cells (bounded (int_max image) (a *ℤ b)) h (λ l. l) refl refl refl (bounded_within (int_max image) (a *ℤ b))
row_safe image depths Div at [] cells h = absurd (omega (arith, h.enough))
row_safe image depths Div at (b ∷ []) cells h = absurd (omega (arith, h.enough))
row_safe image depths Div at (b ∷ a ∷ stack) cells h = two_safe image depths Div at a b stack cells (quotient a b) h (λ l. l) refl refl refl (quotient_within (int_max image) a b (second image a b stack h.stack_range))
row_safe image depths Mod at [] cells h = absurd (omega (arith, h.enough))
row_safe image depths Mod at (b ∷ []) cells h = absurd (omega (arith, h.enough))
row_safe image depths Mod at (b ∷ a ∷ stack) cells h = two_safe image depths Mod at a b stack cells (remainder a b) h (λ l. l) refl refl refl (remainder_within (int_max image) a b (second image a b stack h.stack_range))
row_safe image depths Neg at [] cells h = absurd (omega (arith, h.enough))
row_safe image depths Neg at (a ∷ stack) cells h = one_safe image depths Neg at a stack cells (bounded (int_max image) (neg_ℤ a)) h (λ l. l) refl refl refl (bounded_within (int_max image) (neg_ℤ a))
row_safe image depths Eq at [] cells h = absurd (omega (arith, h.enough))
row_safe image depths Eq at (b ∷ []) cells h = absurd (omega (arith, h.enough))
row_safe image depths Eq at (b ∷ a ∷ stack) cells h = compared_safe image depths Eq at a b stack cells (int_eq a b) h (λ l. l) refl refl refl
row_safe image depths Lt at [] cells h = absurd (omega (arith, h.enough))
row_safe image depths Lt at (b ∷ []) cells h = absurd (omega (arith, h.enough))
row_safe image depths Lt at (b ∷ a ∷ stack) cells h = compared_safe image depths Lt at a b stack cells (int_lt a b) h (λ l. l) refl refl refl
row_safe image depths Le at [] cells h = absurd (omega (arith, h.enough))
row_safe image depths Le at (b ∷ []) cells h = absurd (omega (arith, h.enough))
row_safe image depths Le at (b ∷ a ∷ stack) cells h = compared_safe image depths Le at a b stack cells (int_le a b) h (λ l. l) refl refl refl
row_safe image depths Not at [] cells h = absurd (omega (arith, h.enough))
row_safe image depths Not at (a ∷ stack) cells h = one_safe image depths Not at a stack cells (Ok (truth_number (int_eq a (pos 0)))) h (λ l. l) refl refl refl (truth_within (int_max image) (int_eq a (pos 0)) h.range.least)
row_safe image depths (Jump distance) at stack cells h =
    jumped_safe image depths (Jump distance) at (pos at +ℤ distance) stack stack cells h h.good (λ to is. is) (omega arith) h.stack_range
row_safe image depths (JumpZero distance) at [] cells h = absurd (omega (arith, h.enough))
row_safe image depths (JumpZero distance) at (a ∷ stack) cells h =
    by_test (int_eq a (pos 0)) (λ v. IsSafe image depths (if v then jumped (pos at +ℤ distance) stack cells else next (at + 1) stack cells))
    (λ zero. jumped_safe image depths (JumpZero distance) at (pos at +ℤ distance) (a ∷ stack) stack cells h h.good (λ to is. inr is) (omega arith) (All-tail (IsWithin (int_max image)) a stack h.stack_range))
    (λ other. goes_next image depths (JumpZero distance) at (a ∷ stack) stack cells h (λ l. l) (inl refl) (omega arith) (All-tail (IsWithin (int_max image)) a stack h.stack_range))
row_safe image depths Ret at stack cells h = tt

-- what a checked image says of a configuration that fits
here : (image : Image) (depths : List ℕ) (inst : Inst) (c : Config) → IsNumbered image → IsDepths image depths → IsFitting image depths c →
    slice_get image.code c.place ≡ Some inst → IsHere image depths inst c.place c.stack c.cells
here image depths inst c numbered deep fits is = record {
  range = numbered.range;
  good = numbered.insts c.place inst is;
  stands = fits.place;
  last = λ e. numbered.last c.place inst is e;
  enough = rw fits.deep (deep.enough c.place inst is);
  flows = λ to flow. rw fits.deep (deep.flows c.place to inst is flow);
  stack_range = fits.stack;
  many = fits.many;
  cells_range = fits.cells;
}

-- a step from a configuration that fits
pub step_safe : (image : Image) (depths : List ℕ) (c : Config) → IsNumbered image → IsDepths image depths → IsFitting image depths c → IsSafe image depths (step image c)
step_safe image depths c numbered deep fits =
    let is = slice_get-get_or image.code c.place Ret fits.place in
    rw is (row_safe image depths (get_or image.code c.place Ret) c.place c.stack c.cells (here image depths (get_or image.code c.place Ret) c numbered deep fits is))
