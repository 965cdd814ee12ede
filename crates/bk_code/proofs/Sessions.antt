-- Calls start at configurations that fit; a session tells one thing, and of a checked image it tells something.
use Rattle.std.proofs.Common.{◌≡◌, ℕ, ◌<◌, inl, inr, refl, sym, ◌∙◌, ap, subst, arith, List, [], ◌∷◌, length, Some, ℤ, pos, get_or}
use Rattle.std.specs.Prelude.{All, slice_get, slice_set, slice_index}
use Rattle.std.proofs.Math.ListN.{length-set, length-replicate}
use Rattle.std.proofs.lemmas.Bool.{cases_lt}
use Rattle.std.proofs.lemmas.Option.{slice_get-get_or, slice_get_past}
use Rattle.std.proofs.lemmas.List.Elements.{All-nil, All-head, All-tail, All-get_or, All-set, All-replicate}
use Rattle.bk_code.specs.declared.image.Image.{Image}
use Rattle.bk_code.specs.declared.image.Parameter.{Parameter}
use Rattle.bk_code.specs.Numbers.{int_max, IsWithin}
use Rattle.bk_code.specs.Step.{Config}
use Rattle.bk_code.specs.Run.{End, Done, Trapped, OutOfFuel}
use Rattle.bk_code.specs.Session.{placed, call_start, first_start, Request, Told, given_out, Tells, Continues}
use Rattle.bk_code.specs.Checks.{IsNumbered, IsDepths, IsFitting, IsGoodEntry}
use Rattle.bk_code.specs.Laws.{AreCells, IsRequest, IsFirstFitting, IsCallFitting, HasOneSession, HasSomeSession}
use Rattle.bk_code.proofs.Ranges.{zero_within}
use Rattle.bk_code.proofs.Runs.{one_end, has_some_end}

pub length-placed : (inputs : List Parameter) (args cells : List ℤ) → length (placed inputs args cells) ≡ length cells
length-placed [] args cells = refl
length-placed (input ∷ inputs) [] cells = refl
length-placed (input ∷ inputs) (n ∷ args) cells = length-placed inputs args (slice_set cells input.slot n) ∙ length-set cells input.slot n

pub All-placed : (P : ℤ → Type 0) (inputs : List Parameter) (args cells : List ℤ) → All P args → All P cells → All P (placed inputs args cells)
All-placed P [] args cells given kept = kept
All-placed P (input ∷ inputs) [] cells given kept = kept
All-placed P (input ∷ inputs) (n ∷ args) cells given kept =
    All-placed P inputs args (slice_set cells input.slot n) (All-tail P n args given) (All-set P cells input.slot n (All-head P n args given) kept)

-- what is got from a list stands in it
pub stands : {X : Type 0} (xs : List X) (i : ℕ) (x : X) → slice_get xs i ≡ Some x → i < length xs
stands xs i x is =
    elim (cases_lt i (length xs)) [
      | inl below ↦ below
      | inr past ↦ (let none = slice_get_past xs i past in cc)
    ]

-- what holds of each element holds of one that is got
pub All-slice_get : {X : Type 0} (P : X → Type 0) (xs : List X) (i : ℕ) (x : X) → All P xs → slice_get xs i ≡ Some x → P x
All-slice_get P xs i x all is =
    let there = stands xs i x is in
    let same : get_or xs i x ≡ x = (let e = slice_get-get_or xs i x there in cc) in
    subst P same (All-get_or P xs i x there all)

pub first_fitting : IsFirstFitting
first_fitting image depths numbered deep = record {
  place = numbered.some;
  deep = sym deep.first;
  stack = All-nil (IsWithin (int_max image));
  many = length-replicate image.cells (pos 0);
  cells = All-replicate (IsWithin (int_max image)) image.cells (pos 0) (zero_within (int_max image) numbered.range.least);
}

pub call_fitting : IsCallFitting
call_fitting image depths request cells numbered deep r kept = record {
  place = (All-slice_get (IsGoodEntry image) image.ops request.op r.entry numbered.ops r.named).start;
  deep = sym (All-slice_get (λ e. slice_index depths e.start ≡ 0) image.ops request.op r.entry deep.starts r.named);
  stack = All-nil (IsWithin (int_max image));
  many = length-placed r.entry.inputs request.args cells ∙ kept.many;
  cells = All-placed (IsWithin (int_max image)) r.entry.inputs request.args cells r.callable.range kept.range;
}

-- a call from a configuration that fits tells something, and its cells are those of the image
record HasTold (image : Image) (fuel : ℕ) (outputs : List Parameter) (c : Config) : Type 0 where
  told : Told
  tells : Tells image fuel outputs c told
  kept : AreCells image told.cells

has_told : (image : Image) (depths : List ℕ) (fuel : ℕ) (outputs : List Parameter) (c : Config) → IsNumbered image → IsDepths image depths →
    IsFitting image depths c → HasTold image fuel outputs c
has_told image depths fuel outputs c numbered deep fits =
    let h = has_some_end image depths fuel c numbered deep fits in
    record {
      told = record { end = h.0; outputs = given_out outputs h.0 h.1.cells; cells = h.1.cells };
      tells = record { last = h.1; ends = h.2; cells = refl; given = refl };
      kept = record { many = h.3.many; range = h.3.cells };
    }

continues : (image : Image) (depths : List ℕ) (fuel : ℕ) (end : End) (cells : List ℤ) (requests : List Request) → IsNumbered image → IsDepths image depths →
    AreCells image cells → All (IsRequest image) requests → (tolds : List Told) × Continues image fuel end cells requests tolds
continues image depths fuel (Done n) cells [] numbered deep kept asked = ([], tt)
continues image depths fuel (Done n) cells (request ∷ requests) numbered deep kept asked =
    let r = All-head (IsRequest image) request requests asked in
    let h = has_told image depths fuel r.entry.outputs (call_start r.entry request.args cells) numbered deep
    (call_fitting image depths request cells numbered deep r kept) in
    let rest = continues image depths fuel h.told.end h.told.cells requests numbered deep h.kept (All-tail (IsRequest image) request requests asked) in
    (h.told ∷ rest.0, (record { entry = r.entry; named = r.named; counted = r.callable.counted; call = h.tells }, rest.1))
continues image depths fuel (Trapped kind place n) cells requests numbered deep kept asked = ([], tt)
continues image depths fuel OutOfFuel cells requests numbered deep kept asked = ([], tt)

pub some_session : HasSomeSession
some_session image depths fuel requests numbered deep asked =
    let h = has_told image depths fuel [] (first_start image) numbered deep (first_fitting image depths numbered deep) in
    let rest = continues image depths fuel h.told.end h.told.cells requests numbered deep h.kept asked in
    (h.told ∷ rest.0, (h.tells, rest.1))

-- a call tells one thing
one_told : (image : Image) (fuel : ℕ) (outputs : List Parameter) (c : Config) (t u : Told) → Tells image fuel outputs c t → Tells image fuel outputs c u → t ≡ u
one_told image fuel outputs c t u p q =
    let same = one_end image fuel c t.end u.end p.last q.last p.ends q.ends in
    let ends : t.end ≡ u.end = same.0 in
    let cells : p.last.cells ≡ q.last.cells = ap (λ (d : Config). d.cells) same.1 in
    let a = p.cells in
    let b = q.cells in
    let x = p.given in
    let y = q.given in
    let whole : t.cells ≡ u.cells = cc in
    let outs : t.outputs ≡ u.outputs = cc in
    λ i. record { end = ends i; outputs = outs i; cells = whole i }

one_more_told : (image : Image) (fuel : ℕ) (end : End) (cells : List ℤ) (requests : List Request) (ts us : List Told) →
    Continues image fuel end cells requests ts → Continues image fuel end cells requests us → ts ≡ us
one_more_told image fuel (Done n) cells [] [] [] p q = refl
one_more_told image fuel (Done n) cells [] (t ∷ ts) us p q = absurd p
one_more_told image fuel (Done n) cells [] [] (u ∷ us) p q = absurd q
one_more_told image fuel (Done n) cells (r ∷ rs) [] us p q = absurd p
one_more_told image fuel (Done n) cells (r ∷ rs) (t ∷ ts) [] p q = absurd q
one_more_told image fuel (Done n) cells (r ∷ rs) (t ∷ ts) (u ∷ us) p q =
    let entries : p.0.entry ≡ q.0.entry = (let a = p.0.named in let b = q.0.named in let e : Some p.0.entry ≡ Some q.0.entry = sym a ∙ b in cc) in
    let first : t ≡ u = one_told image fuel p.0.entry.outputs (call_start p.0.entry r.args cells) t u p.0.call
    (subst (λ e. Tells image fuel e.outputs (call_start e r.args cells) u) (sym entries) q.0.call) in
    let rest : ts ≡ us = one_more_told image fuel t.end t.cells rs ts us p.1
    (subst (λ v. Continues image fuel v.end v.cells rs us) (sym first) q.1) in
    cc
one_more_told image fuel (Trapped kind place n) cells rs [] [] p q = refl
one_more_told image fuel (Trapped kind place n) cells rs (t ∷ ts) us p q = absurd p
one_more_told image fuel (Trapped kind place n) cells rs [] (u ∷ us) p q = absurd q
one_more_told image fuel OutOfFuel cells rs [] [] p q = refl
one_more_told image fuel OutOfFuel cells rs (t ∷ ts) us p q = absurd p
one_more_told image fuel OutOfFuel cells rs [] (u ∷ us) p q = absurd q

pub one_session : HasOneSession
one_session image fuel requests [] us p q = absurd p
one_session image fuel requests (t ∷ ts) [] p q = absurd q
one_session image fuel requests (t ∷ ts) (u ∷ us) p q =
    let first : t ≡ u = one_told image fuel [] (first_start image) t u p.0 q.0 in
    let rest : ts ≡ us = one_more_told image fuel t.end t.cells requests ts us p.1
    (subst (λ v. Continues image fuel v.end v.cells requests us) (sym first) q.1) in
    cc
