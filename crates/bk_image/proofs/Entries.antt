-- Sets and operations: what is read is what was written.
use Rattle.std.proofs.Common.{◌≡◌, ℕ, zero, suc, ◌+◌, ◌^◌, ◌<◌, List, ◌++◌, Ok, refl, sym, ap, subst, append_assoc, arith}
use Rattle.std.specs.Int.{w16, w32}
use Rattle.bk_code.specs.declared.image.OpEntry.{OpEntry}
use Rattle.bk_code.specs.declared.image.Parameter.{Parameter}
use Rattle.bk_code.specs.declared.image.CellKind.{CellKind}
use Rattle.bk_code.specs.declared.image.CellKind.TheVariants.{Integer, Bool, Set}
use Rattle.bk_image.specs.Spelling.{number, text, set, sets, kind_number, parameter, parameters, entry, entries, counted, IsCountable, FitsSet, FitsParameter, FitsParameters, FitsEntry}
use Rattle.bk_image.specs.Reading.{◌>>=◌, Read, number_at, text_at, counted_at, set_at, kind_of, parameter_at, parameters_at, entry_at}
use Rattle.bk_image.proofs.Fields.{IsBytes, Takes, Takes-then, Reads, EndsEarly, AreFew, wide16, wide32, bind_ok, bind_early, ok_is, number_reads, number_early, text_reads, text_early, counted_reads, counted_early}

-- the same reader against another statement of what it reads
read_as : {A : Type 0} (len : ℕ) (item : List ℕ → Read A) (spell other : A → List ℕ) (Fits Others : A → Type 0) → ((x : A) → spell x ≡ other x) → ((x : A) → Fits x → Others x) → ((x : A) → Others x → Fits x)
    → Reads len item spell Fits → Reads len item other Others
read_as {A} len item spell other Fits Others same there back reads = record {
  takes = λ bytes x fits e. let t = reads.takes bytes x fits e in (rw (← same x.0) t.0, there x.0 t.1);
  again = λ x rest fits. rw (← same x) (reads.again x rest (back x fits));
}

pub set_reads : (len : ℕ) → Reads len (set_at len) set FitsSet
unfolding set
set_reads len =
    read_as len (set_at len) (counted text) set (AreFew (λ name. IsCountable name)) FitsSet (λ x. refl) (λ x h. record { few = h.0; each = h.1 }) (λ x h. (h.few, h.each))
    (counted_reads len (text_at len) text (λ name. IsCountable name) (text_reads len))

pub set_early : (len : ℕ) → EndsEarly len (set_at len)
set_early len = counted_early len (text_at len) (text_early len)

-- ---- parameters

kind_number-kind_of : (n : ℕ) → kind_number (kind_of n) ≡ n
kind_number-kind_of zero = refl
kind_number-kind_of (suc zero) = refl
kind_number-kind_of (suc (suc n)) = omega arith

kind_of-kind_number : (k : CellKind) → kind_of (kind_number k) ≡ k
kind_of-kind_number Integer = refl
kind_of-kind_number Bool = refl
kind_of-kind_number (Set k) = ap kind_of (two_more k)
  where
    two_more : (n : ℕ) → 2 + n ≡ suc (suc n)
    two_more n = omega arith

parameter_takes : (len : ℕ) (bytes : List ℕ) (x : Parameter × List ℕ) → IsBytes bytes → parameter_at len bytes ≡ Ok x → Takes bytes (parameter x.0) x.1 × FitsParameter x.0
unfolding parameter_at parameter
parameter_takes len bytes x fits e =
    let a = bind_ok (number_at len w16 bytes) (λ kind. number_at len w32 kind.1 >>= λ slot. Ok (record { kind = kind_of kind.0; slot = slot.0 }, slot.1)) x e in
    let b = bind_ok (number_at len w32 a.0.1) (λ slot. Ok (record { kind = kind_of a.0.0; slot = slot.0 }, slot.1)) x a.2 in
    let t0 = (number_reads len w16 wide16).takes bytes a.0 fits a.1 in
    let t1 = (number_reads len w32 wide32).takes a.0.1 b.0 t0.0.rest_fits b.1 in
    let k = kind_number-kind_of a.0.0 in
    let both = Takes-then bytes (number w16 a.0.0) a.0.1 (number w32 b.0.0) b.0.1 t0.0 t1.0 in
    let made : Parameter × List ℕ = (record { kind = kind_of a.0.0; slot = b.0.0 }, b.0.1) in
    subst (λ (y : Parameter × List ℕ). Takes bytes (number w16 (kind_number y.0.kind) ++ number w32 y.0.slot) y.1 × FitsParameter y.0) (ok_is made x b.2)
    (subst (λ (n : ℕ). Takes bytes (number w16 n ++ number w32 b.0.0) b.0.1) (sym k) both, record { kind = subst (λ (n : ℕ). n < 2 ^ 16) (sym k) t0.1; slot = t1.1 })

parameter_again : (len : ℕ) (p : Parameter) (rest : List ℕ) → FitsParameter p → parameter_at len (parameter p ++ rest) ≡ Ok (p, rest)
unfolding parameter_at parameter
parameter_again len p rest fits =
    let regrouped : (number w16 (kind_number p.kind) ++ number w32 p.slot) ++ rest ≡ number w16 (kind_number p.kind) ++ (number w32 p.slot ++ rest) = append_assoc (number w16 (kind_number p.kind)) (number w32 p.slot) rest in
    rw (regrouped, (number_reads len w16 wide16).again (kind_number p.kind) (number w32 p.slot ++ rest) fits.kind, (number_reads len w32 wide32).again p.slot rest fits.slot, kind_of-kind_number p.kind) refl

pub parameter_reads : (len : ℕ) → Reads len (parameter_at len) parameter FitsParameter
parameter_reads len = record { takes = parameter_takes len; again = parameter_again len }

pub parameter_early : (len : ℕ) → EndsEarly len (parameter_at len)
unfolding parameter_at
parameter_early len bytes e h =
    bind_early len (number_at len w16) (λ kind. number_at len w32 kind.1 >>= λ slot. Ok (record { kind = kind_of kind.0; slot = slot.0 }, slot.1)) bytes e (number_early len w16)
    (λ x h. bind_early len (number_at len w32) (λ slot. Ok (record { kind = kind_of x.0; slot = slot.0 }, slot.1)) x.1 e (number_early len w32) (λ y h. absurd cc) h) h

pub parameters_reads : (len : ℕ) → Reads len (parameters_at len) parameters FitsParameters
unfolding parameters
parameters_reads len =
    read_as len (parameters_at len) (counted parameter) parameters (AreFew FitsParameter) FitsParameters (λ x. refl) (λ x h. record { few = h.0; each = h.1 }) (λ x h. (h.few, h.each))
    (counted_reads len (parameter_at len) parameter FitsParameter (parameter_reads len))

pub parameters_early : (len : ℕ) → EndsEarly len (parameters_at len)
parameters_early len = counted_early len (parameter_at len) (parameter_early len)

-- ---- operations

abbrev of_parts : List ℕ → ℕ → List Parameter → List ℕ → Read (List Parameter) → Read OpEntry
of_parts name start inputs rest read = read >>= λ outputs. Ok (record { name = name; start = start; inputs = inputs; outputs = outputs.0 }, outputs.1)

abbrev of_inputs : ℕ → List ℕ → ℕ → Read (List Parameter) → Read OpEntry
of_inputs len name start read = read >>= λ inputs. of_parts name start inputs.0 inputs.1 (parameters_at len inputs.1)

abbrev of_start : ℕ → List ℕ → Read ℕ → Read OpEntry
of_start len name read = read >>= λ start. of_inputs len name start.0 (parameters_at len start.1)

entry_takes : (len : ℕ) (bytes : List ℕ) (x : OpEntry × List ℕ) → IsBytes bytes → entry_at len bytes ≡ Ok x → Takes bytes (entry x.0) x.1 × FitsEntry x.0
unfolding entry_at entry
entry_takes len bytes x fits e =
    let a = bind_ok (text_at len bytes) (λ name. of_start len name.0 (number_at len w32 name.1)) x e in
    let b = bind_ok (number_at len w32 a.0.1) (λ start. of_inputs len a.0.0 start.0 (parameters_at len start.1)) x a.2 in
    let c = bind_ok (parameters_at len b.0.1) (λ inputs. of_parts a.0.0 b.0.0 inputs.0 inputs.1 (parameters_at len inputs.1)) x b.2 in
    let d = bind_ok (parameters_at len c.0.1) (λ outputs. Ok (record { name = a.0.0; start = b.0.0; inputs = c.0.0; outputs = outputs.0 }, outputs.1)) x c.2 in
    let ta = (text_reads len).takes bytes a.0 fits a.1 in
    let tb = (number_reads len w32 wide32).takes a.0.1 b.0 ta.0.rest_fits b.1 in
    let tc = (parameters_reads len).takes b.0.1 c.0 tb.0.rest_fits c.1 in
    let td = (parameters_reads len).takes c.0.1 d.0 tc.0.rest_fits d.1 in
    let made : OpEntry × List ℕ = (record { name = a.0.0; start = b.0.0; inputs = c.0.0; outputs = d.0.0 }, d.0.1) in
    let ab = Takes-then bytes (text a.0.0) a.0.1 (number w32 b.0.0) b.0.1 ta.0 tb.0 in
    let abc = Takes-then bytes (text a.0.0 ++ number w32 b.0.0) b.0.1 (parameters c.0.0) c.0.1 ab tc.0 in
    let abcd = Takes-then bytes (text a.0.0 ++ number w32 b.0.0 ++ parameters c.0.0) c.0.1 (parameters d.0.0) d.0.1 abc td.0 in
    subst (λ (y : OpEntry × List ℕ). Takes bytes (text y.0.name ++ number w32 y.0.start ++ parameters y.0.inputs ++ parameters y.0.outputs) y.1 × FitsEntry y.0) (ok_is made x d.2)
    (abcd, record { name = ta.1; start = tb.1; inputs = tc.1; outputs = td.1 })

entry_again : (len : ℕ) (n : OpEntry) (rest : List ℕ) → FitsEntry n → entry_at len (entry n ++ rest) ≡ Ok (n, rest)
unfolding entry_at entry
entry_again len n rest fits =
    let regrouped : (text n.name ++ number w32 n.start ++ parameters n.inputs ++ parameters n.outputs) ++ rest ≡ text n.name ++ (number w32 n.start ++ (parameters n.inputs ++ (parameters n.outputs ++ rest))) = simp append_assoc in
    rw (
      regrouped,
      (text_reads len).again n.name (number w32 n.start ++ (parameters n.inputs ++ (parameters n.outputs ++ rest))) fits.name,
      (number_reads len w32 wide32).again n.start (parameters n.inputs ++ (parameters n.outputs ++ rest)) fits.start,
      (parameters_reads len).again n.inputs (parameters n.outputs ++ rest) fits.inputs,
      (parameters_reads len).again n.outputs rest fits.outputs,
    ) refl

pub entry_reads : (len : ℕ) → Reads len (entry_at len) entry FitsEntry
entry_reads len = record { takes = entry_takes len; again = entry_again len }

pub entry_early : (len : ℕ) → EndsEarly len (entry_at len)
unfolding entry_at
entry_early len bytes e h =
    bind_early len (text_at len) (λ name. of_start len name.0 (number_at len w32 name.1)) bytes e (text_early len)
    (λ a h. bind_early len (number_at len w32) (λ start. of_inputs len a.0 start.0 (parameters_at len start.1)) a.1 e (number_early len w32)
    (λ b h. bind_early len (parameters_at len) (λ inputs. of_parts a.0 b.0 inputs.0 inputs.1 (parameters_at len inputs.1)) b.1 e (parameters_early len)
    (λ c h. bind_early len (parameters_at len) (λ outputs. Ok (record { name = a.0; start = b.0; inputs = c.0; outputs = outputs.0 }, outputs.1)) c.1 e (parameters_early len)
    (λ d h. absurd cc) h) h) h) h

-- ---- all of them

abbrev pub AreSets : List (List (List ℕ)) → Type 0
AreSets = AreFew FitsSet

abbrev pub AreEntries : List OpEntry → Type 0
AreEntries = AreFew FitsEntry

pub sets_reads : (len : ℕ) → Reads len (counted_at len (set_at len)) sets AreSets
unfolding sets
sets_reads len = counted_reads len (set_at len) set FitsSet (set_reads len)

pub entries_reads : (len : ℕ) → Reads len (counted_at len (entry_at len)) entries AreEntries
unfolding entries
entries_reads len = counted_reads len (entry_at len) entry FitsEntry (entry_reads len)

pub sets_early : (len : ℕ) → EndsEarly len (counted_at len (set_at len))
sets_early len = counted_early len (set_at len) (set_early len)

pub entries_early : (len : ℕ) → EndsEarly len (counted_at len (entry_at len))
entries_early len = counted_early len (entry_at len) (entry_early len)
