-- Pieces with a Ret behind them, one after another.
use Rattle.std.proofs.Common.{◌≡◌, ◌≤◌, ◌<◌, inl, inr, ℕ, zero, suc, ◌+◌, List, [], ◌∷◌, ◌++◌, length, Some, refl, sym, ◌∙◌, ap, subst, arith}
use Rattle.std.specs.Prelude.{slice_get}
use Rattle.std.proofs.lemmas.List.{length-append}
use Rattle.std.proofs.lemmas.Option.{same_Some, slice_get_within}
use Rattle.bk_limits.specs.declared.TheConstants.{STACK_ROOM}
use Rattle.bk_code.specs.declared.image.Image.{Image}
use Rattle.bk_code.specs.declared.instruction.Inst.{Inst}
use Rattle.bk_code.specs.declared.instruction.Inst.TheVariants.{Ret}
use Rattle.bk_code.specs.Checks.{IsLeaving}
use Rattle.bk_gen.proofs.Pieces.{Suits, suits-moved, flows-moved, IsGiven, IsPiece, split, get-first, get-second, joined, joined-first, joined-second, joined-low, AllSuit, suit-append, suit-one, suit-piece, at-start, given-piece}

-- code whose calls end inside: its depths, 0 at its start
pub record IsBlocks (image : Image) (code : List Inst) : Type 0 where
  pub depths : ℕ → ℕ
  pub first : depths 0 ≡ 0
  pub low : (at : ℕ) → depths at ≤ STACK_ROOM
  pub suits : (at : ℕ) (inst : Inst) → slice_get code at ≡ Some inst → Suits image depths (length code) at inst
  pub given : (at : ℕ) → at < length code → IsGiven code depths at
  pub ends : (at : ℕ) (inst : Inst) → slice_get code at ≡ Some inst → at + 1 ≡ length code → IsLeaving inst

pub no_blocks : (image : Image) → IsBlocks image []
no_blocks image = record { depths = λ at. 0; first = refl; low = λ at. omega arith; suits = λ at inst is. absurd (cc); given = λ at low. absurd (omega (arith, low)); ends = λ at inst is last. absurd (cc) }

-- ---- one block
module _ (image : Image) (code : List Inst) (p : IsPiece image code 0 0 STACK_ROOM) where
  abbrev block : List Inst
  block = code ++ Ret ∷ []

  block-long : length block ≡ length code + 1
  block-long = length-append code (Ret ∷ [])

  same-start : (i : ℕ) → i < length code + 1 → p.depths (0 + i) ≡ p.depths i
  same-start i low = let e : 0 + i ≡ i = omega arith in ap p.depths e

  block-stands : (i : ℕ) (inst : Inst) → slice_get code i ≡ Some inst → slice_get block (0 + i) ≡ Some inst
  block-stands i inst is = let e : 0 + i ≡ i = omega arith in ap (slice_get block) e ∙ (get-first code (Ret ∷ []) i (slice_get_within code i inst is) ∙ is)

  block_suits : AllSuit image block p.depths (length block) 0 block
  block_suits = suit-append image block p.depths (length block) 0 (length code) code (Ret ∷ []) (omega arith)
      (suit-piece image block p.depths (length block) code 0 0 STACK_ROOM 0 p same-start (omega (arith, block-long)))
      (suit-one image block p.depths (length block) (length code) Ret (record { good = tt; enough = omega arith; reaches = omega (arith, p.last) }))

  block-given : (at : ℕ) → at < length block → IsGiven block p.depths at
  block-given zero low = inl p.first
  block-given (suc at) low = given-piece image block p.depths (length block) code 0 0 STACK_ROOM 0 p same-start (length code) (omega arith) block-stands (suc at) (omega arith) (omega (arith, low, block-long))

  block-ends : (at : ℕ) (inst : Inst) → slice_get block at ≡ Some inst → at + 1 ≡ length block → IsLeaving inst
  block-ends at inst is last =
      let e : at ≡ length code + 0 = omega (arith, last, block-long) in
      let same : Ret ≡ inst = same_Some Ret inst (sym (get-second code (Ret ∷ []) 0) ∙ (ap (slice_get block) (sym e) ∙ is)) in
      subst IsLeaving same tt

  pub block_is : IsBlocks image block
  block_is = record {
    depths = p.depths;
    first = p.first;
    low = p.low;
    suits = at-start image block p.depths (length block) block block_suits;
    given = block-given;
    ends = block-ends;
  }

-- ---- blocks behind blocks
module _ (image : Image) (xs ys : List Inst) (p : IsBlocks image xs) (q : IsBlocks image ys) where
  abbrev both : List Inst
  both = xs ++ ys

  abbrev ds : ℕ → ℕ
  ds = joined (length xs) p.depths q.depths

  both-long : length both ≡ length xs + length ys
  both-long = length-append xs ys

  front : (i : ℕ) → i < length xs → ds (0 + i) ≡ p.depths i
  front i low = let e : 0 + i ≡ i = omega arith in ap ds e ∙ joined-first (length xs) p.depths q.depths i low

  behind : (i : ℕ) → i < length ys → ds (length xs + i) ≡ q.depths i
  behind i low = joined-second (length xs) p.depths q.depths i

  front-suits : AllSuit image both ds (length both) 0 xs
  front-suits i inst is = suits-moved p.depths (length xs) ds (length both) 0 front (omega (arith, both-long)) image i inst (slice_get_within xs i inst is) (p.suits i inst is)

  behind-suits : AllSuit image both ds (length both) (length xs) ys
  behind-suits i inst is = suits-moved q.depths (length ys) ds (length both) (length xs) behind (omega (arith, both-long)) image i inst (slice_get_within ys i inst is) (q.suits i inst is)

  front-given : (i : ℕ) → i < length xs → IsGiven xs p.depths i → IsGiven both ds i
  front-given i low (inl none) = inl (joined-first (length xs) p.depths q.depths i low ∙ none)
  front-given i low (inr f) = inr (record { from = f.from; inst = f.inst; before = f.before; is = get-first xs ys f.from (slice_get_within xs f.from f.inst f.is) ∙ f.is; flows = f.flows })

  behind-given : (i : ℕ) → IsGiven ys q.depths i → IsGiven both ds (length xs + i)
  behind-given i (inl none) = inl (joined-second (length xs) p.depths q.depths i ∙ none)
  behind-given i (inr f) = let b : f.from < i = f.before in inr (record { from = length xs + f.from; inst = f.inst; before = omega (arith, b); is = get-second xs ys f.from ∙ f.is; flows = flows-moved (length xs) f.from i f.inst f.flows })

  both-given : (at : ℕ) → at < length both → IsGiven both ds at
  both-given at low = elim (split (length xs) at) [
    | inl w ↦ front-given at w (p.given at w)
    | inr w ↦ let e : at ≡ length xs + w.0 = w.1 in subst (IsGiven both ds) (sym e) (behind-given w.0 (q.given w.0 (omega (arith, e, low, both-long))))
  ]

  both-ends : (at : ℕ) (inst : Inst) → slice_get both at ≡ Some inst → at + 1 ≡ length both → IsLeaving inst
  both-ends at inst is last = elim (split (length xs) at) [
    | inl w ↦ p.ends at inst (sym (get-first xs ys at w) ∙ is) (omega (arith, w, last, both-long))
    | inr w ↦ let e : at ≡ length xs + w.0 = w.1 in q.ends w.0 inst (sym (get-second xs ys w.0) ∙ (ap (slice_get both) (sym e) ∙ is)) (omega (arith, e, last, both-long))
  ]

  starts : ds 0 ≡ 0
  starts = by_long xs refl
    where
      by_long : (zs : List Inst) → xs ≡ zs → ds 0 ≡ 0
      by_long [] e = let none : 0 ≡ length xs + 0 = omega (arith, ap length e) in ap ds none ∙ (joined-second (length xs) p.depths q.depths 0 ∙ q.first)
      by_long (z ∷ zs) e = let some : 0 < length xs = omega (arith, ap length e) in joined-first (length xs) p.depths q.depths 0 some ∙ p.first

  pub blocks_joined : IsBlocks image both
  blocks_joined = record {
    depths = ds;
    first = starts;
    low = joined-low (length xs) STACK_ROOM p.depths q.depths p.low q.low;
    suits = at-start image both ds (length both) both (suit-append image both ds (length both) 0 (length xs) xs ys (omega arith) front-suits behind-suits);
    given = both-given;
    ends = both-ends;
  }

  pub blocks-second : (i : ℕ) → blocks_joined.depths (length xs + i) ≡ q.depths i
  unfolding blocks_joined
  blocks-second i = joined-second (length xs) p.depths q.depths i

  pub blocks-first : (i : ℕ) → i < length xs → blocks_joined.depths i ≡ p.depths i
  unfolding blocks_joined
  blocks-first i low = joined-first (length xs) p.depths q.depths i low
