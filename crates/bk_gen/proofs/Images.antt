-- An image of blocks passes the checks.
use Rattle.std.proofs.Common.{◌≡◌, ◌≤◌, ◌<◌, inl, inr, ℕ, zero, suc, ◌+◌, ◌-◌, ℤ, pos, List, [], ◌∷◌, length, refl, sym, ◌∙◌, ap, subst, arith, All}
use Rattle.std.specs.Prelude.{slice_index, ◌+ℤ◌}
use Rattle.std.proofs.lemmas.Int.{ints}
use Rattle.std.proofs.lemmas.List.Elements.{All-nil, All-cons}
use Rattle.std.proofs.lemmas.Option.{slice_get_within}
use Rattle.bk_limits.specs.declared.TheConstants.{MOST_CELLS, MOST_INSTRUCTIONS, STACK_ROOM}
use Rattle.bk_form.specs.Each.{Each}
use Rattle.bk_code.specs.declared.image.Image.{Image}
use Rattle.bk_code.specs.declared.image.OpEntry.{OpEntry}
use Rattle.bk_code.specs.declared.instruction.Inst.{Inst}
use Rattle.bk_code.specs.declared.instruction.Inst.TheVariants.{Push, Load, Store, ALoad, AStore, Jump, JumpZero, Ret}
use Rattle.bk_code.specs.Checks.{IsGoodEntry, IsGoodInst, IsNumbered, IsDepths, IsEmptyAtEnd, IsOpen, IsLoadable, FlowsTo, pops, pushes}
use Rattle.bk_gen.proofs.Pieces.{Lands, Suits, IsGiven}
use Rattle.bk_gen.proofs.Blocks.{IsBlocks}
use Rattle.bk_code.specs.Numbers.{int_max, IsRange}

-- ---- depths as a list
abbrev pub listed : (ℕ → ℕ) → ℕ → List ℕ
listed f zero = []
listed f (suc n) = f 0 ∷ listed (λ i. f (suc i)) n

listed-long : (f : ℕ → ℕ) (n : ℕ) → length (listed f n) ≡ n
listed-long f zero = refl
listed-long f (suc n) = ap suc (listed-long (λ i. f (suc i)) n)

listed-at : (f : ℕ → ℕ) (n i : ℕ) → i < n → slice_index (listed f n) i ≡ f i
listed-at f zero i h = absurd (omega (arith, h))
listed-at f (suc n) zero h = refl
listed-at f (suc n) (suc i) h = listed-at (λ i. f (suc i)) n i (omega (arith, h))

each-all : {A : Type 0} (P Q : A → Type 0) (xs : List A) → ((x : A) → P x → Q x) → Each P xs → All Q xs
each-all P Q [] f h = All-nil Q
each-all P Q (x ∷ xs) f h = All-cons Q x xs (f x h.0) (each-all P Q xs f h.1)

pub record IsStart (image : Image) (depths : ℕ → ℕ) (entry : OpEntry) : Type 0 where
  pub within : entry.start < length image.code
  pub empty : depths entry.start ≡ 0

-- ---- the image
module _ (image : Image) (range : IsRange (int_max image)) (b : IsBlocks image image.code) (few : image.cells ≤ MOST_CELLS) (some : 0 < length image.code) (short : length image.code ≤ MOST_INSTRUCTIONS) (good : All (IsGoodEntry image) image.ops) (starts : Each (IsStart image b.depths) image.ops) where
  abbrev size : ℕ
  size = length image.code

  abbrev ds : List ℕ
  ds = listed b.depths size

  at-depth : (at : ℕ) → at < size → slice_index ds at ≡ b.depths at
  at-depth at low = listed-at b.depths size at low

  good-inst : (at : ℕ) (inst : Inst) → Suits image b.depths size at inst → IsGoodInst image at inst
  good-inst at (Push n) s = s.good
  good-inst at (Load slot) s = s.good
  good-inst at (Store slot) s = s.good
  good-inst at (ALoad base low count) s = s.good
  good-inst at (AStore base low count) s = s.good
  good-inst at (Jump distance) s = record { place = s.reaches.to; is = sym s.reaches.is; stands = s.reaches.low }
  good-inst at (JumpZero distance) s = record { place = s.reaches.0.to; is = sym s.reaches.0.is; stands = s.reaches.0.low }
  good-inst at inst s = tt

  lands-at : (at to : ℕ) (distance : ℤ) (d : ℕ) → Lands b.depths size at distance d → pos to ≡ pos at +ℤ distance → slice_index ds to ≡ d
  lands-at at to distance d l flow =
      let is : pos l.to ≡ pos at +ℤ distance = l.is in
      let same : to ≡ l.to = omega (arith, ints, is, flow) in
      ap (slice_index ds) same ∙ (at-depth l.to l.low ∙ l.there)

  next-at : (at to d : ℕ) → at + 1 < size → b.depths (at + 1) ≡ d → to ≡ at + 1 → slice_index ds to ≡ d
  next-at at to d low there flow = ap (slice_index ds) flow ∙ (at-depth (at + 1) low ∙ there)

  flow-at : (at to : ℕ) (inst : Inst) → Suits image b.depths size at inst → FlowsTo inst at to → slice_index ds to ≡ b.depths at - pops inst + pushes inst
  flow-at at to (Jump distance) s flow = lands-at at to distance (b.depths at - 0 + 0) s.reaches flow
  flow-at at to (JumpZero distance) s (inl flow) = next-at at to (b.depths at - 1 + 0) s.reaches.1.low s.reaches.1.there flow
  flow-at at to (JumpZero distance) s (inr flow) = lands-at at to distance (b.depths at - 1 + 0) s.reaches.0 flow
  flow-at at to Ret s flow = absurd flow
  flow-at at to inst s flow = next-at at to (b.depths at - pops inst + pushes inst) s.reaches.low s.reaches.there flow

  end-at : (at : ℕ) (inst : Inst) → Suits image b.depths size at inst → IsEmptyAtEnd inst (b.depths at)
  end-at at Ret s = let e : b.depths at - 0 + 0 ≡ 0 = s.reaches in omega (arith, e)
  end-at at inst s = tt

  numbered : IsNumbered image
  numbered = record {
    range = range;
    cells = few;
    ops = good;
    insts = λ at inst is. good-inst at inst (b.suits at inst is);
    last = b.ends;
    some = some;
    countable = omega (arith, short);
  }

  fitting : IsDepths image ds
  fitting = record {
    long = listed-long b.depths size;
    first = at-depth 0 some ∙ b.first;
    starts = each-all (IsStart image b.depths) (λ entry. slice_index ds entry.start ≡ 0) image.ops (λ entry h. at-depth entry.start h.within ∙ h.empty) starts;
    limit = λ at low. subst (λ n. n ≤ STACK_ROOM) (sym (at-depth at low)) (b.low at);
    enough = λ at inst is. subst (λ n. pops inst ≤ n) (sym (at-depth at (slice_get_within image.code at inst is))) (b.suits at inst is).enough;
    flows = λ at to inst is flow. flow-at at to inst (b.suits at inst is) flow ∙ ap (λ n. n - pops inst + pushes inst) (sym (at-depth at (slice_get_within image.code at inst is)));
    returned = λ at inst is. subst (IsEmptyAtEnd inst) (sym (at-depth at (slice_get_within image.code at inst is))) (end-at at inst (b.suits at inst is));
  }

  rest-at : (at : ℕ) → at < size → IsOpen image at → IsGiven image.code b.depths at → slice_index ds at ≡ 0
  rest-at at low open_here (inl none) = at-depth at low ∙ none
  rest-at at low open_here (inr f) = absurd (open_here f.from zero (inr f.before) (f.inst, f.is, f.flows))

  pub image_loads : IsLoadable image
  image_loads = record { numbered = numbered; depths = ds; fitting = fitting; rest = λ at low open_here. rest-at at low open_here (b.given at low) }
