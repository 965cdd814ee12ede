-- The translation of every development in B0 follows it, with || in the levels above or without.
use Rattle.std.proofs.Common.{◌≡◌, ◌⊎◌, inl, inr, ◌<◌, ℕ, suc, ℤ, List, length, sym, ap, subst, arith}
use Rattle.bk_form.specs.Search.{Finder}
use Rattle.bk_form.specs.Table.{IsWellFormed}
use Rattle.bk_dev.specs.B0.{IsB0Development}
use Rattle.bk_dev.specs.Development.{Level, Development, level_at, body_of, body_at, last}
use Rattle.bk_dev.specs.Facts.{IsLawful, LastIsFlat}
use Rattle.bk_dev.specs.Flattened.{flattened}
use Rattle.bk_dev.specs.Claims.{CarriesFlat, Keeps, Carries, ValuesMeet, LastCarriesFromEqual}
use Rattle.bk_dev.specs.Machine.{Abstract, Call}
use Rattle.bk_dev.proofs.FlatB0.{flattened_stays_in_b0, last-flat}
use Rattle.bk_dev.proofs.FlatLevels.{lawful}
use Rattle.bk_dev.proofs.FlatSame.{levels-many}
use Rattle.bk_dev.proofs.InTable.{low-vars}
use Rattle.bk_dev.proofs.Room.{flat-formed}
use Rattle.bk_code.specs.declared.image.Image.{Image}
use Rattle.bk_code.specs.declared.image.OpEntry.{OpEntry}
use Rattle.bk_code.specs.Session.{first_start}
use Rattle.bk_b0.specs.Translation.{operation_code, init_code, translation}
use Rattle.bk_gen.proofs.SameCode.{codes-same, openings, operations as operation-codes}
use Rattle.bk_sim.specs.Follows.{started, IsAllowedCall, Follows}
use Rattle.bk_sim.specs.Ending.{HasNoLoop, EndsWithin}
use Rattle.bk_sim.specs.Within.{CallEnds, EndsWithoutLoops}
use Rattle.bk_sim.specs.Laws.{LawfulFollows, EqualFollows, B0Follows, B0Ends}
use Rattle.bk_sim.proofs.Chain.{linked_before}
use Rattle.bk_sim.proofs.Machine.{image-follows, image-ends}
use Rattle.bk_sim.proofs.Moving.{low-level, meet-down, pre-up, linked-up, call-up, follows-down}

-- ---- what ends in the flattened ends in the development
module _ (find : Finder) (dev : Development) (f : IsLawful dev) (b : LastIsFlat dev) (well : IsWellFormed (flattened dev).table) (image : Image) (follows : Follows find dev image) (ends : EndsWithoutLoops find (flattened dev) image) where
  same : level_at (flattened dev) (last (flattened dev)) ≡ level_at dev (last dev)
  same = low-level find dev f well b

  opening-down : HasNoLoop (level_at dev (last dev)).init → EndsWithin image (length (init_code dev)) (first_start image)
  opening-down h = subst (λ n. EndsWithin image n (first_start image)) (ap length (openings dev f.some_level b.init b.bodies (low-vars dev f))) (ends.opening (subst (λ (l : Level). HasNoLoop l.init) (sym same) h))

  local-down : (a : Abstract) (m : List ℤ) (c : Call) (entry : OpEntry) → HasNoLoop (body_at dev (last dev) c.op).sub → IsAllowedCall find dev image a m c entry → CallEnds dev image c entry m
  local-down a m c entry h k =
      let w = ends.local a m c entry (subst (λ (x : Level). HasNoLoop (body_of x c.op).sub) (sym same) h) (record {
        linked = linked-up find dev f well b a m k.linked;
        call = call-up find dev f well b c k.call;
        pre = pre-up find dev f well c k.call.op a k.pre;
        named = k.named;
      }) in
      let body = ap (λ (x : Level). length (operation_code (flattened dev) (body_of x c.op))) same in
      let code = ap length (operation-codes dev f.some_level b.init b.bodies (low-vars dev f) (body_at dev (last dev) c.op)) in
      subst (λ n. EndsWithin image n (started entry c m)) code (subst (λ n. EndsWithin image n (started entry c m)) body w)

  unlooped-down : EndsWithoutLoops find dev image
  unlooped-down = record {
    opening = opening-down;
    session = λ fuel l m cs c outs entry h n.
        let w = linked_before find dev image follows.opening follows.local fuel l m cs c outs n.begun n.calls n.done n.legal in
        local-down w.0 m c entry h (record { linked = w.1; call = n.call; pre = w.2; named = n.named });
    local = local-down;
  }

-- ---- the flattened, whose substitutions are taken as they are, and so the development
module _ (find : Finder) (dev : Development) (f : IsLawful dev) (well : IsWellFormed (flattened dev).table) (b : IsB0Development dev) (meet : ValuesMeet find dev) (keeps : Keeps find dev) (carries : (j : ℕ) → suc (suc j) < length dev.levels → Carries find dev j) (lasts : ((j : ℕ) → suc j ≡ last (flattened dev) → CarriesFlat find (flattened dev) j) ⊎ LastCarriesFromEqual find (flattened dev)) where
  flat-law : IsLawful (flattened dev)
  flat-law = lawful dev f well

  flat-in-b0 : IsB0Development (flattened dev)
  flat-in-b0 = flattened_stays_in_b0 dev f b

  many : length (flattened dev).levels ≡ length dev.levels
  many = levels-many (length dev.table.variables) dev.levels

  flat-carries : (j : ℕ) → suc j < last (flattened dev) → CarriesFlat find (flattened dev) j
  flat-carries j h =
      let some : 0 < length (flattened dev).levels = flat-law.some_level in
      let same = many in
      carries j (omega (arith, h, some, same))

  codes : translation (flattened dev) ≡ translation dev
  codes = codes-same dev f (last-flat dev b)

  followed : Follows find dev (translation dev)
  followed = follows-down find dev f well (last-flat dev b) (translation dev)
      (subst (Follows find (flattened dev)) codes (image-follows find (flattened dev) flat-law flat-in-b0 (meet-down find dev f well meet) keeps flat-carries lasts))

  ended : EndsWithoutLoops find dev (translation dev)
  ended = unlooped-down find dev f (last-flat dev b) well (translation dev) followed
      (subst (EndsWithoutLoops find (flattened dev)) codes (image-ends find (flattened dev) flat-law flat-in-b0 (meet-down find dev f well meet) keeps flat-carries lasts))

-- where the last level carries the one above it from all states
module _ (find : Finder) (dev : Development) (f : IsLawful dev) (carries : (j : ℕ) → suc j < length dev.levels → Carries find dev j) where
  above-last : (j : ℕ) → suc (suc j) < length dev.levels → Carries find dev j
  above-last j h = carries j (omega (arith, h))

  at-last : (j : ℕ) → suc j ≡ last (flattened dev) → CarriesFlat find (flattened dev) j
  at-last j h =
      let same = levels-many (length dev.table.variables) dev.levels in
      let some : 0 < length dev.levels = f.some_level in
      carries j (omega (arith, h, same, some))

pub lawful_follows : LawfulFollows
lawful_follows = record {
  follows = λ find dev f c.
      followed find dev f (flat-formed dev f.table) c.in_b0 c.values c.keeps (above-last find dev f c.carries) (inl (at-last find dev f c.carries));
  ends = λ find dev f c.
      ended find dev f (flat-formed dev f.table) c.in_b0 c.values c.keeps (above-last find dev f c.carries) (inl (at-last find dev f c.carries));
}

pub equal_follows : EqualFollows
equal_follows = record {
  follows = λ find dev c. followed find dev c.lawful (flat-formed dev c.lawful.table) c.in_b0 c.values c.keeps c.carries (inr c.last_carries);
  ends = λ find dev c. ended find dev c.lawful (flat-formed dev c.lawful.table) c.in_b0 c.values c.keeps c.carries (inr c.last_carries);
}

-- ---- every development
pub b0_follows : B0Follows
b0_follows find dev d c = lawful_follows.follows find dev d.lawful c

pub b0_ends : B0Ends
b0_ends find dev d c = lawful_follows.ends find dev d.lawful c
