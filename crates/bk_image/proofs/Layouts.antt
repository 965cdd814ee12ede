-- The layout: what is read is spelled so, what is spelled so is read, and where nothing is read one of the faults stands.
use Rattle.std.proofs.Common.{◌≡◌, ◌≢◌, ℕ, zero, suc, ◌-◌, ◌^◌, ◌<◌, ◌≤◌, ◌⊎◌, ℤ, Bool, true, false, cond, eqb, List, [], ◌∷◌, ◌++◌, length, take, drop, Ok, Err, refl, sym, ap, subst, ◌∙◌, append_assoc, arith, inl, inr}
use Rattle.std.specs.Prelude.{All, replicate}
use Rattle.std.specs.List.{flat_map}
use Rattle.std.specs.Int.{w16, w32, w64, to_be_bytes, from_be_bytes}
use Rattle.std.proofs.lemmas.Bool.{eqb-true, eqb-false, le-ltb}
use Rattle.std.proofs.lemmas.List.{length-append, length-replicate, length-take, take_at, nil_from_length, append-nil}
use Rattle.std.proofs.lemmas.List.Elements.{All-nil, All-cons, All-head, All-tail, All-take, All-append, All-replicate}
use Rattle.bk_code.specs.declared.image.Image.{Image}
use Rattle.bk_code.specs.declared.image.OpEntry.{OpEntry}
use Rattle.bk_code.specs.Numbers.{default_max}
use Rattle.bk_code.specs.declared.instruction.Inst.{Inst}
use Rattle.bk_code.specs.declared.instruction.Inst.TheVariants.{Ret}
use Rattle.bk_image.specs.declared.version.ImageVersion.{ImageVersion}
use Rattle.bk_image.specs.declared.version.ImageVersion.TheVariants.{First, Second}
use Rattle.bk_image.specs.declared.fault.LoadFault.{LoadFault}
use Rattle.bk_image.specs.declared.fault.LoadFault.TheVariants.{Short, Magic, Version, BadInst, BadJump, BadSlot, Stack, Extra}
use Rattle.bk_image.specs.declared.fault.LoadFault.TheVariants as faults
use Rattle.bk_image.specs.Spelling.{number, signed, sets, entries, inst, magic, version, header, laid_out, FitsMax, FitsInst, FitsFields}
use Rattle.bk_image.specs.Reading.{◌>>=◌, Read, number_at, items_at, counted_at, set_at, entry_at, inst_at, magic_at, version_at, max_at, code_at, parts_at, image_at, layout_of}
use Rattle.bk_image.specs.Faults.{IsMagicFault, IsVersionFault, IsInstFault, IsExtraFault, IsShortFault}
use Rattle.bk_image.proofs.Fields.{IsBytes, IsBytes-take, Takes, Takes-then, wide16, wide32, wide64, bind_ok, bind_err, ok_is, err_is, number_reads, number_early, signed_reads, signed_early, items_take, items_again}
use Rattle.bk_image.proofs.Entries.{AreSets, AreEntries, sets_reads, entries_reads, sets_early, entries_early}
use Rattle.bk_image.proofs.Instructions.{by_test, BeginsNone, inst_reads, inst_failing, inst_unread}

-- ---- items of which one can't be read

record StopsAt (len n : ℕ) (bytes : List ℕ) (e : LoadFault) : Type 0 where
  read : List Inst
  fits : All FitsInst read
  more : length read < n
  rest : List ℕ
  is : bytes ≡ flat_map inst read ++ rest
  none : BeginsNone len rest e

stops_later : (len n : ℕ) (bytes : List ℕ) (i : Inst) (after : List ℕ) (e : LoadFault) → Takes bytes (inst i) after → FitsInst i → StopsAt len n after e → StopsAt len (suc n) bytes e
stops_later len n bytes i after e t fits s = record {
  read = i ∷ s.read;
  fits = All-cons FitsInst i s.read fits s.fits;
  more = let h = s.more in omega arith;
  rest = s.rest;
  is = t.parts ∙ ap (λ (b : List ℕ). inst i ++ b) s.is ∙ sym (append_assoc (inst i) (flat_map inst s.read) s.rest);
  none = s.none;
}

code_failing : (len n : ℕ) (bytes : List ℕ) (e : LoadFault) → IsBytes bytes → items_at (inst_at len) n bytes ≡ Err e → (e ≡ Short len) ⊎ StopsAt len n bytes e
unfolding items_at
code_failing len zero bytes e fits h = absurd cc
code_failing len (suc n) bytes e fits h =
    elim (bind_err (inst_at len bytes) (λ first. items_at (inst_at len) n first.1 >>= λ others. Ok (first.0 ∷ others.0, others.1)) e h) [
      | inl now ↦ elim (inst_failing len bytes e now) [
        | inl early ↦ inl early
        | inr none ↦ inr (record { read = []; fits = All-nil FitsInst; more = omega arith; rest = bytes; is = refl; none = none })
      ]
      | inr later ↦
          let t = (inst_reads len).takes bytes later.0 fits later.1 in
          elim (bind_err (items_at (inst_at len) n later.0.1) (λ others. Ok (later.0.0 ∷ others.0, others.1)) e later.2) [
            | inl behind ↦ elim (code_failing len n later.0.1 e t.0.rest_fits behind) [
              | inl early ↦ inl early
              | inr s ↦ inr (stops_later len n bytes later.0.0 later.0.1 e t.0 t.1 s)
            ]
            | inr made ↦ absurd cc
          ]
    ]

-- ---- the version, and MAXINT behind it

-- the number of a version
abbrev numbered : ImageVersion → ℕ
numbered First = 1
numbered Second = 2

-- MAXINT, where the version has it
abbrev most : ImageVersion → ℤ → List ℕ
most First top = []
most Second top = signed w64 top

abbrev start : ImageVersion → List ℕ
start v = magic ++ number w16 (numbered v)

version_is : (v : ImageVersion) (top : ℤ) → version v top ≡ number w16 (numbered v) ++ most v top
unfolding version
version_is First top = sym (append-nil (number w16 1))
version_is Second top = refl

max_take : (len : ℕ) (v : ImageVersion) (bytes : List ℕ) (x : ℤ × List ℕ) → IsBytes bytes → max_at len v bytes ≡ Ok x → Takes bytes (most v x.0) x.1 × FitsMax v x.0
unfolding max_at
max_take len First bytes x fits e =
    let made : ℤ × List ℕ = (default_max, bytes) in
    subst (λ (y : ℤ × List ℕ). Takes bytes [] y.1 × (y.0 ≡ default_max)) (ok_is made x e) (record { parts = refl; rest_fits = fits }, refl)
max_take len Second bytes x fits e = (signed_reads len w64 wide64).takes bytes x fits e

max_again : (len : ℕ) (v : ImageVersion) (top : ℤ) (rest : List ℕ) → FitsMax v top → max_at len v (most v top ++ rest) ≡ Ok (top, rest)
unfolding max_at
max_again len First top rest fits = ap (λ (m : ℤ). Ok (m, rest)) (sym fits)
max_again len Second top rest fits = (signed_reads len w64 wide64).again top rest fits

max_early : (len : ℕ) (v : ImageVersion) (bytes : List ℕ) (e : LoadFault) → max_at len v bytes ≡ Err e → e ≡ Short len
unfolding max_at
max_early len First bytes e h = absurd cc
max_early len Second bytes e h = signed_early len w64 bytes e h

-- ---- what stands behind the version

abbrev body_header : ImageVersion → Image → List ℕ
body_header v image = most v image.max ++ number w32 image.cells ++ sets image.sets ++ entries image.ops ++ number w32 (length image.code)

abbrev body : ImageVersion → Image → List ℕ
body v image = body_header v image ++ flat_map inst image.code

header_is : (v : ImageVersion) (image : Image) → header v image ≡ start v ++ body_header v image
unfolding header
header_is v image = rw (version_is v image.max) (simp append_assoc)

laid_out_is : (v : ImageVersion) (image : Image) → laid_out v image ≡ start v ++ body v image
unfolding laid_out
laid_out_is v image = ap (λ (h : List ℕ). h ++ flat_map inst image.code) (header_is v image) ∙ append_assoc (start v) (body_header v image) (flat_map inst image.code)

abbrev from_code : ℤ → ℕ → List (List (List ℕ)) → List OpEntry → Read (List Inst) → Read Image
from_code top cells sets ops read = read >>= λ code. Ok (record { max = top; cells = cells; sets = sets; ops = ops; code = code.0 }, code.1)

abbrev from_ops : ℕ → ℤ → ℕ → List (List (List ℕ)) → Read (List OpEntry) → Read Image
from_ops len top cells sets read = read >>= λ ops. from_code top cells sets ops.0 (code_at len ops.1)

abbrev from_sets : ℕ → ℤ → ℕ → Read (List (List (List ℕ))) → Read Image
from_sets len top cells read = read >>= λ sets. from_ops len top cells sets.0 (counted_at len (entry_at len) sets.1)

abbrev from_cells : ℕ → ℤ → Read ℕ → Read Image
from_cells len top read = read >>= λ cells. from_sets len top cells.0 (counted_at len (set_at len) cells.1)

parts_take : (len : ℕ) (v : ImageVersion) (bytes : List ℕ) (x : Image × List ℕ) → IsBytes bytes → parts_at len v bytes ≡ Ok x → Takes bytes (body v x.0) x.1 × FitsFields v x.0
unfolding parts_at code_at
parts_take len v bytes x fits e =
    let z = bind_ok (max_at len v bytes) (λ top. from_cells len top.0 (number_at len w32 top.1)) x e in
    let a = bind_ok (number_at len w32 z.0.1) (λ cells. from_sets len z.0.0 cells.0 (counted_at len (set_at len) cells.1)) x z.2 in
    let b = bind_ok (counted_at len (set_at len) a.0.1) (λ sets. from_ops len z.0.0 a.0.0 sets.0 (counted_at len (entry_at len) sets.1)) x a.2 in
    let c = bind_ok (counted_at len (entry_at len) b.0.1) (λ ops. from_code z.0.0 a.0.0 b.0.0 ops.0 (code_at len ops.1)) x b.2 in
    let d = bind_ok (code_at len c.0.1) (λ code. Ok (record { max = z.0.0; cells = a.0.0; sets = b.0.0; ops = c.0.0; code = code.0 }, code.1)) x c.2 in
    let m = bind_ok (number_at len w32 c.0.1) (λ n. items_at (inst_at len) n.0 n.1) d.0 d.1 in
    let tz = max_take len v bytes z.0 fits z.1 in
    let ta = (number_reads len w32 wide32).takes z.0.1 a.0 tz.0.rest_fits a.1 in
    let tb = (sets_reads len).takes a.0.1 b.0 ta.0.rest_fits b.1 in
    let tc = (entries_reads len).takes b.0.1 c.0 tb.0.rest_fits c.1 in
    let tm = (number_reads len w32 wide32).takes c.0.1 m.0 tc.0.rest_fits m.1 in
    let td = items_take len (inst_at len) inst FitsInst (inst_reads len) m.0.0 m.0.1 d.0 tm.0.rest_fits m.2 in
    let counted : Takes c.0.1 (number w32 (length d.0.0)) m.0.1 = subst (λ (n : ℕ). Takes c.0.1 (number w32 n) m.0.1) (sym td.1.0) tm.0 in
    let za = Takes-then bytes (most v z.0.0) z.0.1 (number w32 a.0.0) a.0.1 tz.0 ta.0 in
    let ab = Takes-then bytes (most v z.0.0 ++ number w32 a.0.0) a.0.1 (sets b.0.0) b.0.1 za tb.0 in
    let abc = Takes-then bytes (most v z.0.0 ++ number w32 a.0.0 ++ sets b.0.0) b.0.1 (entries c.0.0) c.0.1 ab tc.0 in
    let abcm = Takes-then bytes (most v z.0.0 ++ number w32 a.0.0 ++ sets b.0.0 ++ entries c.0.0) c.0.1 (number w32 (length d.0.0)) m.0.1 abc counted in
    let all = Takes-then bytes (most v z.0.0 ++ number w32 a.0.0 ++ sets b.0.0 ++ entries c.0.0 ++ number w32 (length d.0.0)) m.0.1 (flat_map inst d.0.0) d.0.1 abcm td.0 in
    let made : Image × List ℕ = (record { max = z.0.0; cells = a.0.0; sets = b.0.0; ops = c.0.0; code = d.0.0 }, d.0.1) in
    subst (λ (y : Image × List ℕ). Takes bytes (body v y.0) y.1 × FitsFields v y.0) (ok_is made x d.2)
    (all, record { max = tz.1; cells = ta.1; few_sets = tb.1.0; sets = tb.1.1; few_ops = tc.1.0; ops = tc.1.1; few_insts = omega (arith, tm.1, td.1.0); insts = td.1.1 })

-- the parts up to the number of instructions are read again, whatever is read behind them
parts_front : (len : ℕ) (v : ImageVersion) (image : Image) (rest : List ℕ) → FitsFields v image
    → parts_at len v (body_header v image ++ rest) ≡ from_code image.max image.cells image.sets image.ops (items_at (inst_at len) (length image.code) rest)
unfolding parts_at code_at
parts_front len v image rest fits =
    let n : List ℕ = number w32 (length image.code) ++ rest in
    let regrouped : body_header v image ++ rest ≡ most v image.max ++ (number w32 image.cells ++ (sets image.sets ++ (entries image.ops ++ n))) = simp append_assoc in
    rw (
      regrouped,
      max_again len v image.max (number w32 image.cells ++ (sets image.sets ++ (entries image.ops ++ n))) fits.max,
      (number_reads len w32 wide32).again image.cells (sets image.sets ++ (entries image.ops ++ n)) fits.cells,
      (sets_reads len).again image.sets (entries image.ops ++ n) (fits.few_sets, fits.sets),
      (entries_reads len).again image.ops n (fits.few_ops, fits.ops),
      (number_reads len w32 wide32).again (length image.code) rest fits.few_insts,
    ) refl

-- where the parts can't be read, though the bytes don't end too early
record PartsStop (len : ℕ) (v : ImageVersion) (bytes : List ℕ) (e : LoadFault) : Type 0 where
  image : Image
  fits : FitsFields v image
  before : ℕ
  more : before < length image.code
  rest : List ℕ
  is : bytes ≡ (body_header v image ++ flat_map inst (take before image.code)) ++ rest
  none : BeginsNone len rest e

-- an image with as many instructions as the count says, of which the first ones were read
filled : ℤ → ℕ → List (List (List ℕ)) → List OpEntry → ℕ → List Inst → Image
filled top cells sets ops n read = record { max = top; cells = cells; sets = sets; ops = ops; code = read ++ replicate (n - length read) Ret }

filled_stop : (len : ℕ) (v : ImageVersion) (bytes : List ℕ) (e : LoadFault) (top : ℤ) (cells : ℕ) (sets' : List (List (List ℕ))) (ops : List OpEntry) (n : ℕ) (after : List ℕ)
    → Takes bytes (most v top ++ number w32 cells ++ sets sets' ++ entries ops ++ number w32 n) after → FitsMax v top → cells < 2 ^ 32 → AreSets sets' → AreEntries ops → n < 2 ^ 32 → StopsAt len n after e → PartsStop len v bytes e
unfolding filled
filled_stop len v bytes e top cells sets' ops n after t least small are entered few s =
    let count : length (s.read ++ replicate (n - length s.read) Ret) ≡ n = let h = s.more in omega (arith, length-append s.read (replicate (n - length s.read) Ret), length-replicate (n - length s.read) Ret) in
    record {
      image = filled top cells sets' ops n s.read;
      fits = record {
        max = least;
        cells = small;
        few_sets = are.0;
        sets = are.1;
        few_ops = entered.0;
        ops = entered.1;
        few_insts = rw count few;
        insts = All-append FitsInst s.read (replicate (n - length s.read) Ret) s.fits (All-replicate FitsInst (n - length s.read) Ret tt);
      };
      before = length s.read;
      more = rw count s.more;
      rest = s.rest;
      is = rw (count, take_at s.read (replicate (n - length s.read) Ret) (length s.read) refl)
          (t.parts ∙ ap (λ (b : List ℕ). (most v top ++ number w32 cells ++ sets sets' ++ entries ops ++ number w32 n) ++ b) s.is
          ∙ sym (append_assoc (most v top ++ number w32 cells ++ sets sets' ++ entries ops ++ number w32 n) (flat_map inst s.read) s.rest));
      none = s.none;
    }

code_stop : (len : ℕ) (v : ImageVersion) (bytes : List ℕ) (e : LoadFault) (top : ℤ) (cells : ℕ) (sets' : List (List (List ℕ))) (ops : List OpEntry) (after : List ℕ)
    → Takes bytes (most v top ++ number w32 cells ++ sets sets' ++ entries ops) after → FitsMax v top → cells < 2 ^ 32 → AreSets sets' → AreEntries ops → code_at len after ≡ Err e → (e ≡ Short len) ⊎ PartsStop len v bytes e
unfolding code_at
code_stop len v bytes e top cells sets' ops after t least small are entered h =
    elim (bind_err (number_at len w32 after) (λ n. items_at (inst_at len) n.0 n.1) e h) [
      | inl early ↦ inl (number_early len w32 after e early)
      | inr m ↦
          let tm = (number_reads len w32 wide32).takes after m.0 t.rest_fits m.1 in
          let all = Takes-then bytes (most v top ++ number w32 cells ++ sets sets' ++ entries ops) after (number w32 m.0.0) m.0.1 t tm.0 in
          elim (code_failing len m.0.0 m.0.1 e tm.0.rest_fits m.2) [
            | inl early ↦ inl early
            | inr s ↦ inr (filled_stop len v bytes e top cells sets' ops m.0.0 m.0.1 all least small are entered tm.1 s)
          ]
    ]

-- where the sets, the operations or the code can't be read
sets_failing : (len : ℕ) (v : ImageVersion) (bytes : List ℕ) (e : LoadFault) (top : ℤ) (cells : ℕ) (after : List ℕ)
    → Takes bytes (most v top ++ number w32 cells) after → FitsMax v top → cells < 2 ^ 32 → from_sets len top cells (counted_at len (set_at len) after) ≡ Err e → (e ≡ Short len) ⊎ PartsStop len v bytes e
sets_failing len v bytes e top cells after t least small h =
    elim (bind_err (counted_at len (set_at len) after) (λ sets. from_ops len top cells sets.0 (counted_at len (entry_at len) sets.1)) e h) [
      | inl early ↦ inl (sets_early len after e early)
      | inr b ↦
          let tb = (sets_reads len).takes after b.0 t.rest_fits b.1 in
          let ab = Takes-then bytes (most v top ++ number w32 cells) after (sets b.0.0) b.0.1 t tb.0 in
          elim (bind_err (counted_at len (entry_at len) b.0.1) (λ ops. from_code top cells b.0.0 ops.0 (code_at len ops.1)) e b.2) [
            | inl early ↦ inl (entries_early len b.0.1 e early)
            | inr c ↦
                let tc = (entries_reads len).takes b.0.1 c.0 tb.0.rest_fits c.1 in
                let abc = Takes-then bytes (most v top ++ number w32 cells ++ sets b.0.0) b.0.1 (entries c.0.0) c.0.1 ab tc.0 in
                elim (bind_err (code_at len c.0.1) (λ code. Ok (record { max = top; cells = cells; sets = b.0.0; ops = c.0.0; code = code.0 }, code.1)) e c.2) [
                  | inl stop ↦ code_stop len v bytes e top cells b.0.0 c.0.0 c.0.1 abc least small tb.1 tc.1 stop
                  | inr d ↦ absurd cc
                ]
          ]
    ]

parts_failing : (len : ℕ) (v : ImageVersion) (bytes : List ℕ) (e : LoadFault) → IsBytes bytes → parts_at len v bytes ≡ Err e → (e ≡ Short len) ⊎ PartsStop len v bytes e
unfolding parts_at
parts_failing len v bytes e fits h =
    elim (bind_err (max_at len v bytes) (λ top. from_cells len top.0 (number_at len w32 top.1)) e h) [
      | inl early ↦ inl (max_early len v bytes e early)
      | inr z ↦
          let tz = max_take len v bytes z.0 fits z.1 in
          elim (bind_err (number_at len w32 z.0.1) (λ cells. from_sets len z.0.0 cells.0 (counted_at len (set_at len) cells.1)) e z.2) [
            | inl early ↦ inl (number_early len w32 z.0.1 e early)
            | inr a ↦
                let ta = (number_reads len w32 wide32).takes z.0.1 a.0 tz.0.rest_fits a.1 in
                let za = Takes-then bytes (most v z.0.0) z.0.1 (number w32 a.0.0) a.0.1 tz.0 ta.0 in
                sets_failing len v bytes e z.0.0 a.0.0 a.0.1 za tz.1 ta.1 a.2
          ]
    ]

-- ---- magic and version

magic_number : number w32 0x424B494D ≡ magic
unfolding number magic
magic_number = refl

-- a test that has to come out true
guard_ended : {A : Type 0} (b : Bool) (d : LoadFault) (x y : A) → cond b (Ok x) (Err d) ≡ Ok y → (b ≡ true) × (x ≡ y)
guard_ended true d x y e = (refl, cc)
guard_ended false d x y e = absurd cc

guard_stopped : {A : Type 0} (b : Bool) (d : LoadFault) (x : A) (c : LoadFault) → cond b (Ok x) (Err d) ≡ Err c → (b ≡ false) × (c ≡ d)
guard_stopped true d x c e = absurd cc
guard_stopped false d x c e = (refl, sym (err_is d c e))

magic_take : (len : ℕ) (bytes : List ℕ) (x : ℕ × List ℕ) → IsBytes bytes → magic_at len bytes ≡ Ok x → Takes bytes magic x.1
unfolding magic_at
magic_take len bytes x fits e =
    let a = bind_ok (number_at len w32 bytes) (λ n. cond (eqb n.0 0x424B494D) (Ok n) (Err Magic)) x e in
    let g = guard_ended (eqb a.0.0 0x424B494D) Magic a.0 x a.2 in
    let t = (number_reads len w32 wide32).takes bytes a.0 fits a.1 in
    let n-is : a.0.0 ≡ 0x424B494D = eqb-true a.0.0 0x424B494D g.0 in
    subst (λ (y : ℕ × List ℕ). Takes bytes magic y.1) g.1 (subst (λ (m : List ℕ). Takes bytes m a.0.1) (ap (number w32) n-is ∙ magic_number) t.0)

magic_front : (len : ℕ) (rest : List ℕ) → magic_at len (magic ++ rest) ≡ Ok (0x424B494D, rest)
unfolding magic_at
magic_front len rest =
    let read : number_at len w32 (magic ++ rest) ≡ Ok (0x424B494D, rest) = subst (λ (m : List ℕ). number_at len w32 (m ++ rest) ≡ Ok (0x424B494D, rest)) magic_number ((number_reads len w32 wide32).again 0x424B494D rest (omega arith)) in
    rw read refl

-- the second version, or the fault
abbrev second_or : Bool → ℕ → List ℕ → Read ImageVersion
second_or two n rest = cond two (Ok (Second, rest)) (Err (Version n))

-- the first one, or that
abbrev first_or : Bool → ℕ → List ℕ → Read ImageVersion
first_or one n rest = cond one (Ok (First, rest)) (second_or (eqb n 2) n rest)

-- the version of this number, or the fault, before these bytes
abbrev as_version : ℕ → List ℕ → Read ImageVersion
as_version n rest = first_or (eqb n 1) n rest

as_version_taken : (n : ℕ) (bytes rest : List ℕ) (x : ImageVersion × List ℕ) → Takes bytes (number w16 n) rest → as_version n rest ≡ Ok x → Takes bytes (number w16 (numbered x.0)) x.1
as_version_taken n bytes rest x t h =
    let one : ImageVersion × List ℕ = (First, rest) in
    let two : ImageVersion × List ℕ = (Second, rest) in
    by_test (eqb n 1) (λ b. first_or b n rest ≡ Ok x → Takes bytes (number w16 (numbered x.0)) x.1)
    (λ is-one is.
    subst (λ (y : ImageVersion × List ℕ). Takes bytes (number w16 (numbered y.0)) y.1) (ok_is one x is) (subst (λ (m : ℕ). Takes bytes (number w16 m) rest) (eqb-true n 1 is-one) t))
    (λ other.
    by_test (eqb n 2) (λ b. second_or b n rest ≡ Ok x → Takes bytes (number w16 (numbered x.0)) x.1)
    (λ is-two is.
    subst (λ (y : ImageVersion × List ℕ). Takes bytes (number w16 (numbered y.0)) y.1) (ok_is two x is) (subst (λ (m : ℕ). Takes bytes (number w16 m) rest) (eqb-true n 2 is-two) t))
    (λ none is. absurd cc)) h

version_take : (len : ℕ) (bytes : List ℕ) (x : ImageVersion × List ℕ) → IsBytes bytes → version_at len bytes ≡ Ok x → Takes bytes (number w16 (numbered x.0)) x.1
unfolding version_at
version_take len bytes x fits e =
    let a = bind_ok (number_at len w16 bytes) (λ n. as_version n.0 n.1) x e in
    let t = (number_reads len w16 wide16).takes bytes a.0 fits a.1 in
    as_version_taken a.0.0 bytes a.0.1 x t.0 a.2

version_front : (len : ℕ) (v : ImageVersion) (rest : List ℕ) → version_at len (number w16 (numbered v) ++ rest) ≡ Ok (v, rest)
unfolding version_at
version_front len First rest = rw ((number_reads len w16 wide16).again 1 rest (omega arith)) refl
version_front len Second rest = rw ((number_reads len w16 wide16).again 2 rest (omega arith)) refl

-- ---- the image

abbrev Versioned : Type 0
Versioned = (ImageVersion × Image) × List ℕ

abbrev with_version : ImageVersion → Read Image → Read (ImageVersion × Image)
with_version v read = read >>= λ parts. Ok ((v, parts.0), parts.1)

image_take : (len : ℕ) (bytes : List ℕ) (x : Versioned) → IsBytes bytes → image_at len bytes ≡ Ok x → Takes bytes (laid_out x.0.0 x.0.1) x.1 × FitsFields x.0.0 x.0.1
unfolding image_at
image_take len bytes x fits e =
    let a = bind_ok (magic_at len bytes) (λ magic. version_at len magic.1 >>= λ version. with_version version.0 (parts_at len version.0 version.1)) x e in
    let b = bind_ok (version_at len a.0.1) (λ version. with_version version.0 (parts_at len version.0 version.1)) x a.2 in
    let c = bind_ok (parts_at len b.0.0 b.0.1) (λ parts. Ok ((b.0.0, parts.0), parts.1)) x b.2 in
    let v : ImageVersion = b.0.0 in
    let ta = magic_take len bytes a.0 fits a.1 in
    let tb = version_take len a.0.1 b.0 ta.rest_fits b.1 in
    let tc = parts_take len v b.0.1 c.0 tb.rest_fits c.1 in
    let all = Takes-then bytes (start v) b.0.1 (body v c.0.0) c.0.1 (Takes-then bytes magic a.0.1 (number w16 (numbered v)) b.0.1 ta tb) tc.0 in
    let whole : Takes bytes (laid_out v c.0.0) c.0.1 = subst (λ (m : List ℕ). Takes bytes m c.0.1) (sym (laid_out_is v c.0.0)) all in
    let made : Versioned = ((v, c.0.0), c.0.1) in
    subst (λ (y : Versioned). Takes bytes (laid_out y.0.0 y.0.1) y.1 × FitsFields y.0.0 y.0.1) (ok_is made x c.2) (whole, tc.1)

image_front : (len : ℕ) (v : ImageVersion) (rest : List ℕ) → image_at len (start v ++ rest) ≡ with_version v (parts_at len v rest)
unfolding image_at
image_front len v rest = rw (append_assoc magic (number w16 (numbered v)) rest, magic_front len (number w16 (numbered v) ++ rest), version_front len v rest) refl

image_again : (len : ℕ) (v : ImageVersion) (image : Image) (rest : List ℕ) → FitsFields v image → image_at len (laid_out v image ++ rest) ≡ Ok ((v, image), rest)
image_again len v image rest fits =
    let regrouped : laid_out v image ++ rest ≡ start v ++ (body_header v image ++ (flat_map inst image.code ++ rest)) = ap (λ (s : List ℕ). s ++ rest) (laid_out_is v image) ∙ simp append_assoc in
    let read : parts_at len v (body_header v image ++ (flat_map inst image.code ++ rest)) ≡ Ok (image, rest) =
    parts_front len v image (flat_map inst image.code ++ rest) fits ∙ rw (items_again len (inst_at len) inst FitsInst (inst_reads len) image.code rest fits.insts) refl in
    ap (image_at len) regrouped ∙ image_front len v (body_header v image ++ (flat_map inst image.code ++ rest)) ∙ ap (with_version v) read

-- ---- all of the bytes

pub layout_take : (bytes : List ℕ) (x : ImageVersion × Image) → IsBytes bytes → layout_of bytes ≡ Ok x → (bytes ≡ laid_out x.0 x.1) × FitsFields x.0 x.1
unfolding layout_of
layout_take bytes x fits e =
    let a = bind_ok (image_at (length bytes) bytes) (λ y. cond (eqb (length y.1) 0) (Ok y.0) (Err (Extra (length bytes - length y.1)))) x e in
    let g = guard_ended (eqb (length a.0.1) 0) (Extra (length bytes - length a.0.1)) a.0.0 x a.2 in
    let t = image_take (length bytes) bytes a.0 fits a.1 in
    let none : a.0.1 ≡ [] = nil_from_length a.0.1 (eqb-true (length a.0.1) 0 g.0) in
    let whole : List ℕ = laid_out a.0.0.0 a.0.0.1 in
    subst (λ (y : ImageVersion × Image). (bytes ≡ laid_out y.0 y.1) × FitsFields y.0 y.1) g.1 (t.0.parts ∙ ap (λ (r : List ℕ). whole ++ r) none ∙ append-nil whole, t.1)

pub layout_again : (v : ImageVersion) (image : Image) → FitsFields v image → layout_of (laid_out v image) ≡ Ok (v, image)
unfolding layout_of
layout_again v image fits =
    let whole : List ℕ = laid_out v image in
    let read : image_at (length whole) whole ≡ Ok ((v, image), []) = ap (image_at (length whole)) (sym (append-nil whole)) ∙ image_again (length whole) v image [] fits in
    rw read refl

-- ---- the faults

-- what stands where the layout can't be read
abbrev pub Cause : List ℕ → LoadFault → Type 0
Cause bytes (Short at) = at ≡ length bytes
Cause bytes Magic = IsMagicFault bytes
Cause bytes (Version n) = IsVersionFault bytes n
Cause bytes (BadInst at) = IsInstFault bytes at
Cause bytes (Extra at) = IsExtraFault bytes at
Cause bytes _ = ⊥

early_cause : (bytes : List ℕ) (e : LoadFault) → e ≡ Short (length bytes) → Cause bytes e
early_cause bytes e h = subst (Cause bytes) (sym h) refl

magic_bytes : to_be_bytes w32 0x424B494D ≡ magic
unfolding magic
magic_bytes = refl

four_bytes : (n : ℕ) → length (number w32 n) ≡ 4
unfolding number
four_bytes n = refl

-- four bytes that are those of another number are others
other_magic : (bytes : List ℕ) (x : ℕ × List ℕ) → Takes bytes (number w32 x.0) x.1 → x.0 < 2 ^ 32 → x.0 ≢ 0x424B494D → IsMagicFault bytes
other_magic bytes x t small other = record {
  stands = omega (arith, four_bytes x.0, length-append (number w32 x.0) x.1, ap length t.parts);
  other = λ same.
      let front : take 4 bytes ≡ number w32 x.0 = ap (take 4) t.parts ∙ take_at (number w32 x.0) x.1 4 (four_bytes x.0) in
      let bytes-are : number w32 x.0 ++ [] ≡ magic ++ [] = ap (λ (m : List ℕ). m ++ []) (sym front ∙ same) in
      let one = (number_reads 4 w32 wide32).again x.0 [] small in
      let two : number_at 4 w32 (magic ++ []) ≡ Ok (0x424B494D, []) = subst (λ (m : List ℕ). number_at 4 w32 (m ++ []) ≡ Ok (0x424B494D, [])) magic_number ((number_reads 4 w32 wide32).again 0x424B494D [] (omega arith)) in
      let both : Ok (x.0, []) ≡ Ok (0x424B494D, []) = sym one ∙ ap (number_at 4 w32) bytes-are ∙ two in
      let pair = ok_is (x.0, []) (0x424B494D, []) both in
      other (ap (λ (p : ℕ × List ℕ). p.0) pair);
}

magic_cause : (bytes : List ℕ) (e : LoadFault) → IsBytes bytes → magic_at (length bytes) bytes ≡ Err e → Cause bytes e
unfolding magic_at
magic_cause bytes e fits h =
    elim (bind_err (number_at (length bytes) w32 bytes) (λ n. cond (eqb n.0 0x424B494D) (Ok n) (Err Magic)) e h) [
      | inl early ↦ early_cause bytes e (number_early (length bytes) w32 bytes e early)
      | inr a ↦
          let t = (number_reads (length bytes) w32 wide32).takes bytes a.0 fits a.1 in
          let g = guard_stopped (eqb a.0.0 0x424B494D) Magic a.0 e a.2 in
          subst (Cause bytes) (sym g.1) (other_magic bytes a.0 t.0 t.1 (eqb-false a.0.0 0x424B494D g.0))
    ]

-- a number that is none of the two
as_version_stopped : (n : ℕ) (rest : List ℕ) (e : LoadFault) → as_version n rest ≡ Err e → (eqb n 1 ≡ false) × (eqb n 2 ≡ false) × (e ≡ Version n)
as_version_stopped n rest e h =
    let two : ImageVersion × List ℕ = (Second, rest) in
    by_test (eqb n 1) (λ b. first_or b n rest ≡ Err e → (eqb n 1 ≡ false) × (eqb n 2 ≡ false) × (e ≡ Version n))
    (λ one is. absurd cc)
    (λ other is. let g = guard_stopped (eqb n 2) (Version n) two e is in (other, g.0, g.1)) h

version_cause : (bytes after : List ℕ) (e : LoadFault) → Takes bytes magic after → version_at (length bytes) after ≡ Err e → Cause bytes e
unfolding version_at
version_cause bytes after e t h =
    elim (bind_err (number_at (length bytes) w16 after) (λ n. as_version n.0 n.1) e h) [
      | inl early ↦ early_cause bytes e (number_early (length bytes) w16 after e early)
      | inr a ↦
          let u = (number_reads (length bytes) w16 wide16).takes after a.0 t.rest_fits a.1 in
          let g = as_version_stopped a.0.0 a.0.1 e a.2 in
          let all = Takes-then bytes magic after (number w16 a.0.0) a.0.1 t u.0 in
          subst (Cause bytes) (sym g.2) (record { rest = a.0.1; is = all.parts; fits = u.1; not_first = eqb-false a.0.0 1 g.0; not_second = eqb-false a.0.0 2 g.1 })
    ]

-- a byte that begins no instruction, behind the first instructions
parts_cause : (v : ImageVersion) (bytes after : List ℕ) (e : LoadFault) → bytes ≡ start v ++ after → PartsStop (length bytes) v after e → Cause bytes e
parts_cause v bytes after e is s =
    let read : List ℕ = flat_map inst (take s.before s.image.code) in
    let n = s.none in
    let all : bytes ≡ (header v s.image ++ read) ++ s.rest =
    is ∙ ap (λ (b : List ℕ). start v ++ b) s.is ∙ regroup (start v) (body_header v s.image) read s.rest ∙ ap (λ (h : List ℕ). (h ++ read) ++ s.rest) (sym (header_is v s.image)) in
    let place : length bytes - length s.rest ≡ length (header v s.image ++ read) = omega (arith, length-append (header v s.image ++ read) s.rest, ap length all) in
    subst (Cause bytes) (sym (n.fault ∙ ap BadInst place))
    (record { version = v; image = s.image; fits = s.fits; before = s.before; more = s.more; byte = n.byte; rest = n.rest; is = all ∙ ap (λ (b : List ℕ). (header v s.image ++ read) ++ b) n.is; none = n.none; place = refl })
  where
    regroup : (a b c d : List ℕ) → a ++ ((b ++ c) ++ d) ≡ ((a ++ b) ++ c) ++ d
    regroup a b c d = simp append_assoc

image_cause : (bytes : List ℕ) (e : LoadFault) → IsBytes bytes → image_at (length bytes) bytes ≡ Err e → Cause bytes e
unfolding image_at
image_cause bytes e fits h =
    elim (bind_err (magic_at (length bytes) bytes) (λ magic. version_at (length bytes) magic.1 >>= λ version. with_version version.0 (parts_at (length bytes) version.0 version.1)) e h) [
      | inl now ↦ magic_cause bytes e fits now
      | inr a ↦
          let ta = magic_take (length bytes) bytes a.0 fits a.1 in
          elim (bind_err (version_at (length bytes) a.0.1) (λ version. with_version version.0 (parts_at (length bytes) version.0 version.1)) e a.2) [
            | inl now ↦ version_cause bytes a.0.1 e ta now
            | inr b ↦
                let tb = version_take (length bytes) a.0.1 b.0 ta.rest_fits b.1 in
                let all = Takes-then bytes magic a.0.1 (number w16 (numbered b.0.0)) b.0.1 ta tb in
                elim (bind_err (parts_at (length bytes) b.0.0 b.0.1) (λ parts. Ok ((b.0.0, parts.0), parts.1)) e b.2) [
                  | inl stop ↦ elim (parts_failing (length bytes) b.0.0 b.0.1 e tb.rest_fits stop) [
                    | inl early ↦ early_cause bytes e early
                    | inr s ↦ parts_cause b.0.0 bytes b.0.1 e all.parts s
                  ]
                  | inr made ↦ absurd cc
                ]
          ]
    ]

pub layout_cause : (bytes : List ℕ) (e : LoadFault) → IsBytes bytes → layout_of bytes ≡ Err e → Cause bytes e
unfolding layout_of
layout_cause bytes e fits h =
    elim (bind_err (image_at (length bytes) bytes) (λ y. cond (eqb (length y.1) 0) (Ok y.0) (Err (Extra (length bytes - length y.1)))) e h) [
      | inl now ↦ image_cause bytes e fits now
      | inr a ↦
          let t = image_take (length bytes) bytes a.0 fits a.1 in
          let g = guard_stopped (eqb (length a.0.1) 0) (Extra (length bytes - length a.0.1)) a.0.0 e a.2 in
          let whole : List ℕ = laid_out a.0.0.0 a.0.0.1 in
          let place : length bytes - length a.0.1 ≡ length whole = omega (arith, length-append whole a.0.1, ap length t.0.parts) in
          subst (Cause bytes) (sym (g.1 ∙ ap Extra place))
          (record { version = a.0.0.0; image = a.0.0.1; fits = t.1; rest = a.0.1; is = t.0.parts; some = λ none. eqb-false (length a.0.1) 0 g.0 (ap length none); place = refl })
    ]

-- ---- each fault is the one that is met

stands_read : (len : ℕ) (bytes : List ℕ) → 4 ≤ length bytes → number_at len w32 bytes ≡ Ok (from_be_bytes w32 (take 4 bytes), drop 4 bytes)
unfolding number_at
stands_read len bytes h = rw (le-ltb (length bytes) 4 h) refl

magic_wrong : (len : ℕ) (bytes : List ℕ) (n : ℕ) (rest : List ℕ) → number_at len w32 bytes ≡ Ok (n, rest) → eqb n 0x424B494D ≡ false → magic_at len bytes ≡ Err Magic
unfolding magic_at
magic_wrong len bytes n rest read other = rw (read, other) refl

pub differ : (a b : ℕ) → a ≢ b → eqb a b ≡ false
differ a b h = by_test (eqb a b) (λ t. t ≡ false) (λ e. absurd (h (eqb-true a b e))) (λ e. refl)

from_magic : (bytes : List ℕ) (e : LoadFault) → magic_at (length bytes) bytes ≡ Err e → layout_of bytes ≡ Err e
unfolding layout_of image_at
from_magic bytes e h = rw h refl

pub known_magic : (bytes : List ℕ) → IsBytes bytes → IsMagicFault bytes → layout_of bytes ≡ Err Magic
known_magic bytes fits f = from_magic bytes Magic wrong
  where
    number_of : ℕ
    number_of = from_be_bytes w32 (take 4 bytes)

    other : number_of ≢ 0x424B494D
    other e = f.other (sym (wide32.back (take 4 bytes) (let h = f.stands in omega (arith, length-take 4 bytes)) (IsBytes-take 4 bytes fits)) ∙ ap (to_be_bytes w32) e ∙ magic_bytes)

    read : number_at (length bytes) w32 bytes ≡ Ok (number_of, drop 4 bytes)
    read = stands_read (length bytes) bytes f.stands

    wrong : magic_at (length bytes) bytes ≡ Err Magic
    wrong = magic_wrong (length bytes) bytes number_of (drop 4 bytes) read (differ number_of 0x424B494D other)

from_version : (bytes after : List ℕ) (e : LoadFault) → bytes ≡ magic ++ after → version_at (length bytes) after ≡ Err e → layout_of bytes ≡ Err e
unfolding layout_of image_at
from_version bytes after e is h =
    let read : magic_at (length bytes) bytes ≡ Ok (0x424B494D, after) = ap (magic_at (length bytes)) is ∙ magic_front (length bytes) after in
    rw (read, h) refl

version_wrong : (len n : ℕ) (rest : List ℕ) → n < 2 ^ 16 → n ≢ 1 → n ≢ 2 → version_at len (number w16 n ++ rest) ≡ Err (Version n)
unfolding version_at
version_wrong len n rest small other more = rw ((number_reads len w16 wide16).again n rest small, differ n 1 other, differ n 2 more) refl

pub known_version : (bytes : List ℕ) (n : ℕ) → IsVersionFault bytes n → layout_of bytes ≡ Err (Version n)
known_version bytes n f =
    from_version bytes (number w16 n ++ f.rest) (Version n) (f.is ∙ append_assoc magic (number w16 n) f.rest) (version_wrong (length bytes) n f.rest f.fits f.not_first f.not_second)

from_image : (bytes : List ℕ) (e : LoadFault) → image_at (length bytes) bytes ≡ Err e → layout_of bytes ≡ Err e
unfolding layout_of
from_image bytes e h = rw h refl

items_stop : (len n : ℕ) (read : List Inst) (rest : List ℕ) (e : LoadFault) → All FitsInst read → length read < n → inst_at len rest ≡ Err e → items_at (inst_at len) n (flat_map inst read ++ rest) ≡ Err e
unfolding items_at
items_stop len zero read rest e fits more h = absurd (omega arith)
items_stop len (suc n) [] rest e fits more h = rw h refl
items_stop len (suc n) (i ∷ read) rest e fits more h =
    rw (
      append_assoc (inst i) (flat_map inst read) rest,
      (inst_reads len).again i (flat_map inst read ++ rest) (All-head FitsInst i read fits),
      items_stop len n read rest e (All-tail FitsInst i read fits) (omega arith) h,
    ) refl

pub known_inst : (bytes : List ℕ) (at : ℕ) → IsInstFault bytes at → layout_of bytes ≡ Err (BadInst at)
known_inst bytes at f = from_image bytes (BadInst at) (parts ∙ ap (with_version f.version) stops)
  where
    v : ImageVersion
    v = f.version

    tail : List ℕ
    tail = f.byte ∷ f.rest

    read : List Inst
    read = take f.before f.image.code

    regroup : (a b c d : List ℕ) → ((a ++ b) ++ c) ++ d ≡ a ++ (b ++ (c ++ d))
    regroup a b c d = simp append_assoc

    is : bytes ≡ start v ++ (body_header v f.image ++ (flat_map inst read ++ tail))
    is = f.is ∙ ap (λ (h : List ℕ). (h ++ flat_map inst read) ++ tail) (header_is v f.image) ∙ regroup (start v) (body_header v f.image) (flat_map inst read) tail

    whole : Read Image
    whole = from_code f.image.max f.image.cells f.image.sets f.image.ops (items_at (inst_at (length bytes)) (length f.image.code) (flat_map inst read ++ tail))

    parts : image_at (length bytes) bytes ≡ with_version v whole
    parts =
        ap (image_at (length bytes)) is ∙ image_front (length bytes) v (body_header v f.image ++ (flat_map inst read ++ tail))
        ∙ ap (with_version v) (parts_front (length bytes) v f.image (flat_map inst read ++ tail) f.fits)

    place : length bytes - length tail ≡ at
    place = let h = f.place in omega (arith, length-append (header v f.image ++ flat_map inst read) tail, ap length f.is)

    fits : All FitsInst read
    fits = All-take FitsInst f.before f.image.code f.fits.insts

    fewer : length read < length f.image.code
    fewer = let h = f.more in omega (arith, length-take f.before f.image.code)

    stops : from_code f.image.max f.image.cells f.image.sets f.image.ops (items_at (inst_at (length bytes)) (length f.image.code) (flat_map inst read ++ tail)) ≡ Err (BadInst at)
    stops = rw (items_stop (length bytes) (length f.image.code) read tail (BadInst (length bytes - length tail)) fits fewer (inst_unread (length bytes) f.byte f.rest f.none), place) refl

-- the layout of an image at the front is read, or more bytes follow it
known_front : (bytes : List ℕ) (v : ImageVersion) (image : Image) (rest : List ℕ) (e : LoadFault) → FitsFields v image → bytes ≡ laid_out v image ++ rest → layout_of bytes ≡ Err e → e ≡ Extra (length bytes - length rest)
unfolding layout_of
known_front bytes v image rest e fits is h =
    let read : image_at (length bytes) bytes ≡ Ok ((v, image), rest) = ap (image_at (length bytes)) is ∙ image_again (length bytes) v image rest fits in
    let last : cond (eqb (length rest) 0) (Ok (v, image)) (Err (Extra (length bytes - length rest))) ≡ Err e = rw read at h in
    (guard_stopped (eqb (length rest) 0) (Extra (length bytes - length rest)) (v, image) e last).1

-- the fault of the layout
abbrev pub IsLayoutFault : List ℕ → LoadFault → Type 0
IsLayoutFault bytes (Short at) = IsShortFault bytes at
IsLayoutFault bytes Magic = IsMagicFault bytes
IsLayoutFault bytes (Version n) = IsVersionFault bytes n
IsLayoutFault bytes (BadInst at) = IsInstFault bytes at
IsLayoutFault bytes (Extra at) = IsExtraFault bytes at
IsLayoutFault bytes _ = ⊥

short_fault : (bytes : List ℕ) (at : ℕ) → IsBytes bytes → at ≡ length bytes → layout_of bytes ≡ Err (Short at) → IsShortFault bytes at
short_fault bytes at fits place h = record {
  place = place;
  magic = λ f. let k = known_magic bytes fits f in cc;
  version = λ n f. let k = known_version bytes n f in cc;
  insts = λ n f. let k = known_inst bytes n f in cc;
  whole = λ v image rest full is. let k = known_front bytes v image rest (Short at) full is h in cc;
}

pub layout_fault : (bytes : List ℕ) (e : LoadFault) → IsBytes bytes → layout_of bytes ≡ Err e → IsLayoutFault bytes e
layout_fault bytes (Short at) fits h = short_fault bytes at fits (layout_cause bytes (Short at) fits h) h
layout_fault bytes Magic fits h = layout_cause bytes Magic fits h
layout_fault bytes (Version n) fits h = layout_cause bytes (Version n) fits h
layout_fault bytes (BadInst at) fits h = layout_cause bytes (BadInst at) fits h
layout_fault bytes (Extra at) fits h = layout_cause bytes (Extra at) fits h
layout_fault bytes (BadJump at) fits h = layout_cause bytes (BadJump at) fits h
layout_fault bytes (BadSlot at) fits h = layout_cause bytes (BadSlot at) fits h
layout_fault bytes (Stack at) fits h = layout_cause bytes (Stack at) fits h
layout_fault bytes faults.Memory fits h = layout_cause bytes faults.Memory fits h

pub known_extra : (bytes : List ℕ) (at : ℕ) → IsExtraFault bytes at → layout_of bytes ≡ Err (Extra at)
unfolding layout_of
known_extra bytes at f =
    let read : image_at (length bytes) bytes ≡ Ok ((f.version, f.image), f.rest) = ap (image_at (length bytes)) f.is ∙ image_again (length bytes) f.version f.image f.rest f.fits in
    let more : eqb (length f.rest) 0 ≡ false = differ (length f.rest) 0 (λ e. f.some (nil_from_length f.rest e)) in
    let p = f.place in
    let place : length bytes - length f.rest ≡ at = omega (arith, length-append (laid_out f.version f.image) f.rest, ap length f.is, p) in
    rw (read, more, place) refl
