-- Instructions: what is read is what was written, and a byte that begins none is a fault.
use Rattle.std.proofs.Common.{◌≡◌, ℕ, suc, ◌-◌, ◌^◌, ◌<◌, ◌⊎◌, Bool, true, false, cond, eqb, List, [], ◌∷◌, ◌++◌, length, Option, Some, None, Ok, Err, refl, sym, ap, subst, append_assoc, inl, inr, ℤ, pos}
use Rattle.std.specs.Prelude.{FitsSigned}
use Rattle.std.specs.Int.{w32, w64}
use Rattle.std.proofs.lemmas.Bool.{eqb-true}
use Rattle.bk_code.specs.declared.instruction.Inst.{Inst}
use Rattle.bk_code.specs.declared.instruction.Inst.TheVariants.{Push, Load, Store, ALoad, AStore, Add, Sub, Mul, Div, Mod, Neg, Eq, Lt, Le, Not, Jump, JumpZero, Ret}
use Rattle.bk_image.specs.declared.fault.LoadFault.{LoadFault}
use Rattle.bk_image.specs.declared.fault.LoadFault.TheVariants.{Short, BadInst}
use Rattle.bk_image.specs.Spelling.{number, signed, array, opcode, operands, inst, FitsArray, FitsInst}
use Rattle.bk_image.specs.Reading.{◌>>=◌, Read, number_at, signed_at, array_at, plain_inst, plain_at, made, operands_at, inst_at}
use Rattle.bk_image.specs.Faults.{IsOpcode}
use Rattle.bk_image.proofs.Fields.{IsBytes, Takes, Takes-then, Reads, EndsEarly, wide32, wide64, bind_ok, bind_early, ok_is, err_is, number_reads, number_early, signed_reads, signed_early}

-- a fact about a test's result, from the two cases
pub by_test : (t : Bool) (P : Bool → Type 0) → (t ≡ true → P true) → (t ≡ false → P false) → P t
by_test true P on_true on_false = on_true refl
by_test false P on_true on_false = on_false refl

-- ---- arrays

abbrev Operands : Type 0
Operands = ℕ × ℤ × ℕ

abbrev spell_array : Operands → List ℕ
spell_array a = array a.0 a.1 a.2

abbrev FitsOperands : Operands → Type 0
FitsOperands a = FitsArray a.0 a.1 a.2

array_takes : (len : ℕ) (bytes : List ℕ) (x : Operands × List ℕ) → IsBytes bytes → array_at len bytes ≡ Ok x → Takes bytes (spell_array x.0) x.1 × FitsOperands x.0
unfolding array_at array
array_takes len bytes x fits e =
    let a = bind_ok (number_at len w32 bytes) (λ base. signed_at len w64 base.1 >>= λ low. number_at len w32 low.1 >>= λ count. Ok ((base.0, low.0, count.0), count.1)) x e in
    let b = bind_ok (signed_at len w64 a.0.1) (λ low. number_at len w32 low.1 >>= λ count. Ok ((a.0.0, low.0, count.0), count.1)) x a.2 in
    let c = bind_ok (number_at len w32 b.0.1) (λ count. Ok ((a.0.0, b.0.0, count.0), count.1)) x b.2 in
    let ta = (number_reads len w32 wide32).takes bytes a.0 fits a.1 in
    let tb = (signed_reads len w64 wide64).takes a.0.1 b.0 ta.0.rest_fits b.1 in
    let tc = (number_reads len w32 wide32).takes b.0.1 c.0 tb.0.rest_fits c.1 in
    let ab = Takes-then bytes (number w32 a.0.0) a.0.1 (signed w64 b.0.0) b.0.1 ta.0 tb.0 in
    let abc = Takes-then bytes (number w32 a.0.0 ++ signed w64 b.0.0) b.0.1 (number w32 c.0.0) c.0.1 ab tc.0 in
    let all : Operands × List ℕ = ((a.0.0, b.0.0, c.0.0), c.0.1) in
    subst (λ (y : Operands × List ℕ). Takes bytes (number w32 y.0.0 ++ signed w64 y.0.1 ++ number w32 y.0.2) y.1 × FitsOperands y.0) (ok_is all x c.2)
    (abc, record { first_cell = ta.1; least = tb.1; size = tc.1 })

array_again : (len : ℕ) (a : Operands) (rest : List ℕ) → FitsOperands a → array_at len (spell_array a ++ rest) ≡ Ok (a, rest)
unfolding array_at array
array_again len a rest fits =
    let regrouped : (number w32 a.0 ++ signed w64 a.1 ++ number w32 a.2) ++ rest ≡ number w32 a.0 ++ (signed w64 a.1 ++ (number w32 a.2 ++ rest)) = simp append_assoc in
    rw (
      regrouped,
      (number_reads len w32 wide32).again a.0 (signed w64 a.1 ++ (number w32 a.2 ++ rest)) fits.first_cell,
      (signed_reads len w64 wide64).again a.1 (number w32 a.2 ++ rest) fits.least,
      (number_reads len w32 wide32).again a.2 rest fits.size,
    ) refl

array_reads : (len : ℕ) → Reads len (array_at len) spell_array FitsOperands
array_reads len = record { takes = array_takes len; again = array_again len }

array_early : (len : ℕ) → EndsEarly len (array_at len)
unfolding array_at
array_early len bytes e h =
    bind_early len (number_at len w32) (λ base. signed_at len w64 base.1 >>= λ low. number_at len w32 low.1 >>= λ count. Ok ((base.0, low.0, count.0), count.1)) bytes e (number_early len w32)
    (λ a h. bind_early len (signed_at len w64) (λ low. number_at len w32 low.1 >>= λ count. Ok ((a.0, low.0, count.0), count.1)) a.1 e (signed_early len w64)
    (λ b h. bind_early len (number_at len w32) (λ count. Ok ((a.0, b.0, count.0), count.1)) b.1 e (number_early len w32) (λ c h. absurd cc) h) h) h

-- ---- opcodes

-- an instruction without operands, and its opcode
record IsPlain (n : ℕ) (i : Inst) : Type 0 where
  code : opcode i ≡ n
  none : operands i ≡ []
  fits : FitsInst i

abbrev PlainAt : ℕ → Option Inst → Type 0
PlainAt n o = (i : Inst) → o ≡ Some i → IsPlain n i

plain_leaf : (n : ℕ) (j : Inst) → IsPlain n j → PlainAt n (Some j)
plain_leaf n j h i e =
    let same : j ≡ i = cc in
    subst (IsPlain n) same h

plain_is : (n : ℕ) → PlainAt n (plain_inst n)
unfolding plain_inst
plain_is n =
    by_test (eqb n 0x06) (λ t. PlainAt n (cond t (Some Add) (cond (eqb n 0x07) (Some Sub) (cond (eqb n 0x08) (Some Mul) (cond (eqb n 0x09) (Some Div) (cond (eqb n 0x0A) (Some Mod) (cond (eqb n 0x0B) (Some Neg) (cond (eqb n 0x0C) (Some Eq) (cond (eqb n 0x0D) (Some Lt) (cond (eqb n 0x0E) (Some Le) (cond (eqb n 0x0F) (Some Not) (cond (eqb n 0x12) (Some Ret) None))))))))))))
    (λ e. plain_leaf n Add (record { code = sym (eqb-true n 0x06 e); none = refl; fits = tt })) (λ _.
    by_test (eqb n 0x07) (λ t. PlainAt n (cond t (Some Sub) (cond (eqb n 0x08) (Some Mul) (cond (eqb n 0x09) (Some Div) (cond (eqb n 0x0A) (Some Mod) (cond (eqb n 0x0B) (Some Neg) (cond (eqb n 0x0C) (Some Eq) (cond (eqb n 0x0D) (Some Lt) (cond (eqb n 0x0E) (Some Le) (cond (eqb n 0x0F) (Some Not) (cond (eqb n 0x12) (Some Ret) None)))))))))))
    (λ e. plain_leaf n Sub (record { code = sym (eqb-true n 0x07 e); none = refl; fits = tt })) (λ _.
    by_test (eqb n 0x08) (λ t. PlainAt n (cond t (Some Mul) (cond (eqb n 0x09) (Some Div) (cond (eqb n 0x0A) (Some Mod) (cond (eqb n 0x0B) (Some Neg) (cond (eqb n 0x0C) (Some Eq) (cond (eqb n 0x0D) (Some Lt) (cond (eqb n 0x0E) (Some Le) (cond (eqb n 0x0F) (Some Not) (cond (eqb n 0x12) (Some Ret) None))))))))))
    (λ e. plain_leaf n Mul (record { code = sym (eqb-true n 0x08 e); none = refl; fits = tt })) (λ _.
    by_test (eqb n 0x09) (λ t. PlainAt n (cond t (Some Div) (cond (eqb n 0x0A) (Some Mod) (cond (eqb n 0x0B) (Some Neg) (cond (eqb n 0x0C) (Some Eq) (cond (eqb n 0x0D) (Some Lt) (cond (eqb n 0x0E) (Some Le) (cond (eqb n 0x0F) (Some Not) (cond (eqb n 0x12) (Some Ret) None)))))))))
    (λ e. plain_leaf n Div (record { code = sym (eqb-true n 0x09 e); none = refl; fits = tt })) (λ _.
    by_test (eqb n 0x0A) (λ t. PlainAt n (cond t (Some Mod) (cond (eqb n 0x0B) (Some Neg) (cond (eqb n 0x0C) (Some Eq) (cond (eqb n 0x0D) (Some Lt) (cond (eqb n 0x0E) (Some Le) (cond (eqb n 0x0F) (Some Not) (cond (eqb n 0x12) (Some Ret) None))))))))
    (λ e. plain_leaf n Mod (record { code = sym (eqb-true n 0x0A e); none = refl; fits = tt })) (λ _.
    by_test (eqb n 0x0B) (λ t. PlainAt n (cond t (Some Neg) (cond (eqb n 0x0C) (Some Eq) (cond (eqb n 0x0D) (Some Lt) (cond (eqb n 0x0E) (Some Le) (cond (eqb n 0x0F) (Some Not) (cond (eqb n 0x12) (Some Ret) None)))))))
    (λ e. plain_leaf n Neg (record { code = sym (eqb-true n 0x0B e); none = refl; fits = tt })) (λ _.
    by_test (eqb n 0x0C) (λ t. PlainAt n (cond t (Some Eq) (cond (eqb n 0x0D) (Some Lt) (cond (eqb n 0x0E) (Some Le) (cond (eqb n 0x0F) (Some Not) (cond (eqb n 0x12) (Some Ret) None))))))
    (λ e. plain_leaf n Eq (record { code = sym (eqb-true n 0x0C e); none = refl; fits = tt })) (λ _.
    by_test (eqb n 0x0D) (λ t. PlainAt n (cond t (Some Lt) (cond (eqb n 0x0E) (Some Le) (cond (eqb n 0x0F) (Some Not) (cond (eqb n 0x12) (Some Ret) None)))))
    (λ e. plain_leaf n Lt (record { code = sym (eqb-true n 0x0D e); none = refl; fits = tt })) (λ _.
    by_test (eqb n 0x0E) (λ t. PlainAt n (cond t (Some Le) (cond (eqb n 0x0F) (Some Not) (cond (eqb n 0x12) (Some Ret) None))))
    (λ e. plain_leaf n Le (record { code = sym (eqb-true n 0x0E e); none = refl; fits = tt })) (λ _.
    by_test (eqb n 0x0F) (λ t. PlainAt n (cond t (Some Not) (cond (eqb n 0x12) (Some Ret) None)))
    (λ e. plain_leaf n Not (record { code = sym (eqb-true n 0x0F e); none = refl; fits = tt })) (λ _.
    by_test (eqb n 0x12) (λ t. PlainAt n (cond t (Some Ret) None))
    (λ e. plain_leaf n Ret (record { code = sym (eqb-true n 0x12 e); none = refl; fits = tt })) (λ _ i h. absurd cc)))))))))))

-- no opcode with operands
record IsOther (n : ℕ) : Type 0 where
  push : eqb n 0x01 ≡ false
  load : eqb n 0x02 ≡ false
  store : eqb n 0x03 ≡ false
  array_load : eqb n 0x04 ≡ false
  array_store : eqb n 0x05 ≡ false
  jump : eqb n 0x10 ≡ false
  jump_zero : eqb n 0x11 ≡ false

abbrev of_array : (ℕ → ℤ → ℕ → Inst) → Operands → Inst
of_array make a = make a.0 a.1 a.2

-- a fact about what stands behind an opcode, from that for each opcode
by_opcode : (P : Read Inst → Type 0) (len : ℕ) (fault : LoadFault) (n : ℕ) (bytes : List ℕ) →
    (n ≡ 0x01 → P (made Push (signed_at len w64 bytes))) → (n ≡ 0x02 → P (made Load (number_at len w32 bytes))) → (n ≡ 0x03 → P (made Store (number_at len w32 bytes))) →
    (n ≡ 0x04 → P (made (λ a. ALoad a.0 a.1 a.2) (array_at len bytes))) → (n ≡ 0x05 → P (made (λ a. AStore a.0 a.1 a.2) (array_at len bytes))) →
    (n ≡ 0x10 → P (made Jump (signed_at len w32 bytes))) → (n ≡ 0x11 → P (made JumpZero (signed_at len w32 bytes))) →
    (IsOther n → P (plain_at fault (plain_inst n) bytes)) → P (operands_at len fault n bytes)
unfolding operands_at
by_opcode P len fault n bytes push load store array_load array_store jump jump_zero other =
    let last : Read Inst = plain_at fault (plain_inst n) bytes in
    let from_zero : Bool → Read Inst = λ t. cond t (made JumpZero (signed_at len w32 bytes)) last in
    let from_jump : Bool → Read Inst = λ t. cond t (made Jump (signed_at len w32 bytes)) (from_zero (eqb n 0x11)) in
    let from_array_store : Bool → Read Inst = λ t. cond t (made (λ a. AStore a.0 a.1 a.2) (array_at len bytes)) (from_jump (eqb n 0x10)) in
    let from_array_load : Bool → Read Inst = λ t. cond t (made (λ a. ALoad a.0 a.1 a.2) (array_at len bytes)) (from_array_store (eqb n 0x05)) in
    let from_store : Bool → Read Inst = λ t. cond t (made Store (number_at len w32 bytes)) (from_array_load (eqb n 0x04)) in
    let from_load : Bool → Read Inst = λ t. cond t (made Load (number_at len w32 bytes)) (from_store (eqb n 0x03)) in
    by_test (eqb n 0x01) (λ t. P (cond t (made Push (signed_at len w64 bytes)) (from_load (eqb n 0x02)))) (λ e. push (eqb-true n 0x01 e)) (λ f1.
    by_test (eqb n 0x02) (λ t. P (from_load t)) (λ e. load (eqb-true n 0x02 e)) (λ f2.
    by_test (eqb n 0x03) (λ t. P (from_store t)) (λ e. store (eqb-true n 0x03 e)) (λ f3.
    by_test (eqb n 0x04) (λ t. P (from_array_load t)) (λ e. array_load (eqb-true n 0x04 e)) (λ f4.
    by_test (eqb n 0x05) (λ t. P (from_array_store t)) (λ e. array_store (eqb-true n 0x05 e)) (λ f5.
    by_test (eqb n 0x10) (λ t. P (from_jump t)) (λ e. jump (eqb-true n 0x10 e)) (λ f6.
    by_test (eqb n 0x11) (λ t. P (from_zero t)) (λ e. jump_zero (eqb-true n 0x11 e)) (λ f7.
    other (record { push = f1; load = f2; store = f3; array_load = f4; array_store = f5; jump = f6; jump_zero = f7 }))))))))

-- ---- what is read

-- what a reader behind an opcode takes
record Follows (n : ℕ) (bytes : List ℕ) (x : Inst × List ℕ) : Type 0 where
  code : opcode x.0 ≡ n
  takes : Takes bytes (operands x.0) x.1
  fits : FitsInst x.0

abbrev FollowsIn : ℕ → List ℕ → Read Inst → Type 0
FollowsIn n bytes read = (x : Inst × List ℕ) → read ≡ Ok x → Follows n bytes x

made_follows : {A : Type 0} (n len : ℕ) (bytes : List ℕ) (item : List ℕ → Read A) (spell : A → List ℕ) (Fits : A → Type 0) (make : A → Inst) → IsBytes bytes → Reads len item spell Fits
    → ((a : A) → opcode (make a) ≡ n) → ((a : A) → operands (make a) ≡ spell a) → ((a : A) → Fits a → FitsInst (make a)) → FollowsIn n bytes (made make (item bytes))
made_follows n len bytes item spell Fits make fits reads code same good x e =
    let a = bind_ok (item bytes) (λ y. Ok (make y.0, y.1)) x e in
    let t = reads.takes bytes a.0 fits a.1 in
    let all : Inst × List ℕ = (make a.0.0, a.0.1) in
    subst (Follows n bytes) (ok_is all x a.2) (record { code = code a.0.0; takes = rw (same a.0.0) t.0; fits = good a.0.0 t.1 })

plain_follows : (n : ℕ) (fault : LoadFault) (bytes : List ℕ) (o : Option Inst) → IsBytes bytes → PlainAt n o → FollowsIn n bytes (plain_at fault o bytes)
plain_follows n fault bytes None fits plain x e = absurd cc
plain_follows n fault bytes (Some i) fits plain x e =
    let p = plain i refl in
    let all : Inst × List ℕ = (i, bytes) in
    subst (Follows n bytes) (ok_is all x e) (record { code = p.code; takes = rw p.none (record { parts = refl; rest_fits = fits }); fits = p.fits })

operands_follow : (len : ℕ) (fault : LoadFault) (n : ℕ) (bytes : List ℕ) → IsBytes bytes → FollowsIn n bytes (operands_at len fault n bytes)
operands_follow len fault n bytes fits =
    let one = number_reads len w32 wide32 in
    let far = signed_reads len w32 wide32 in
    let wide = signed_reads len w64 wide64 in
    by_opcode (FollowsIn n bytes) len fault n bytes
    (λ e. made_follows n len bytes (signed_at len w64) (signed w64) (FitsSigned w64) Push fits wide (λ a. sym e) (λ a. refl) (λ a h. h))
    (λ e. made_follows n len bytes (number_at len w32) (number w32) (λ s. s < 2 ^ 32) Load fits one (λ a. sym e) (λ a. refl) (λ a h. h))
    (λ e. made_follows n len bytes (number_at len w32) (number w32) (λ s. s < 2 ^ 32) Store fits one (λ a. sym e) (λ a. refl) (λ a h. h))
    (λ e. made_follows n len bytes (array_at len) spell_array FitsOperands (of_array ALoad) fits (array_reads len) (λ a. sym e) (λ a. refl) (λ a h. h))
    (λ e. made_follows n len bytes (array_at len) spell_array FitsOperands (of_array AStore) fits (array_reads len) (λ a. sym e) (λ a. refl) (λ a h. h))
    (λ e. made_follows n len bytes (signed_at len w32) (signed w32) (FitsSigned w32) Jump fits far (λ a. sym e) (λ a. refl) (λ a h. h))
    (λ e. made_follows n len bytes (signed_at len w32) (signed w32) (FitsSigned w32) JumpZero fits far (λ a. sym e) (λ a. refl) (λ a h. h))
    (λ other. plain_follows n fault bytes (plain_inst n) fits (plain_is n))

IsBytes-rest : (b : ℕ) (bytes : List ℕ) → IsBytes (b ∷ bytes) → IsBytes bytes
IsBytes-rest b bytes h i = h (suc i)

inst_takes : (len : ℕ) (bytes : List ℕ) (x : Inst × List ℕ) → IsBytes bytes → inst_at len bytes ≡ Ok x → Takes bytes (inst x.0) x.1 × FitsInst x.0
unfolding inst_at inst
inst_takes len [] x fits e = absurd cc
inst_takes len (n ∷ bytes) x fits e =
    let f = operands_follow len (BadInst (len - length (n ∷ bytes))) n bytes (IsBytes-rest n bytes fits) x e in
    (record { parts = rw f.code (ap (λ (t : List ℕ). n ∷ t) f.takes.parts); rest_fits = f.takes.rest_fits }, f.fits)

-- ---- what was written

abbrev Again : ℕ → LoadFault → Inst → List ℕ → Type 0
Again len fault i rest = operands_at len fault (opcode i) (operands i ++ rest) ≡ Ok (i, rest)

operands_again : (len : ℕ) (fault : LoadFault) (i : Inst) (rest : List ℕ) → FitsInst i → Again len fault i rest
unfolding operands_at plain_inst
operands_again len fault (Push n) rest fits = rw ((signed_reads len w64 wide64).again n rest fits) refl
operands_again len fault (Load slot) rest fits = rw ((number_reads len w32 wide32).again slot rest fits) refl
operands_again len fault (Store slot) rest fits = rw ((number_reads len w32 wide32).again slot rest fits) refl
operands_again len fault (ALoad base low count) rest fits = rw ((array_reads len).again (base, low, count) rest fits) refl
operands_again len fault (AStore base low count) rest fits = rw ((array_reads len).again (base, low, count) rest fits) refl
operands_again len fault Add rest fits = refl
operands_again len fault Sub rest fits = refl
operands_again len fault Mul rest fits = refl
operands_again len fault Div rest fits = refl
operands_again len fault Mod rest fits = refl
operands_again len fault Neg rest fits = refl
operands_again len fault Eq rest fits = refl
operands_again len fault Lt rest fits = refl
operands_again len fault Le rest fits = refl
operands_again len fault Not rest fits = refl
operands_again len fault (Jump distance) rest fits = rw ((signed_reads len w32 wide32).again distance rest fits) refl
operands_again len fault (JumpZero distance) rest fits = rw ((signed_reads len w32 wide32).again distance rest fits) refl
operands_again len fault Ret rest fits = refl

inst_again : (len : ℕ) (i : Inst) (rest : List ℕ) → FitsInst i → inst_at len (inst i ++ rest) ≡ Ok (i, rest)
unfolding inst_at inst
inst_again len i rest fits = operands_again len (BadInst (len - length (opcode i ∷ (operands i ++ rest)))) i rest fits

pub inst_reads : (len : ℕ) → Reads len (inst_at len) inst FitsInst
inst_reads len = record { takes = inst_takes len; again = inst_again len }

-- ---- a byte that begins no instruction

-- the byte is none of an instruction
record IsNoInst (n : ℕ) : Type 0 where
  other : IsOther n
  plain : plain_inst n ≡ None

-- an opcode without operands is one of an instruction without
plain_again : (i : Inst) → IsOther (opcode i) → plain_inst (opcode i) ≡ Some i
unfolding plain_inst
plain_again (Push n) o = let h = o.push in absurd cc
plain_again (Load slot) o = let h = o.load in absurd cc
plain_again (Store slot) o = let h = o.store in absurd cc
plain_again (ALoad base low count) o = let h = o.array_load in absurd cc
plain_again (AStore base low count) o = let h = o.array_store in absurd cc
plain_again Add o = refl
plain_again Sub o = refl
plain_again Mul o = refl
plain_again Div o = refl
plain_again Mod o = refl
plain_again Neg o = refl
plain_again Eq o = refl
plain_again Lt o = refl
plain_again Le o = refl
plain_again Not o = refl
plain_again (Jump distance) o = let h = o.jump in absurd cc
plain_again (JumpZero distance) o = let h = o.jump_zero in absurd cc
plain_again Ret o = refl

no_opcode : (n : ℕ) → IsNoInst n → IsOpcode n → ⊥
no_opcode n none h =
    let there : IsNoInst (opcode h.0) = subst IsNoInst (sym h.1) none in
    let a = there.plain in
    let b = plain_again h.0 there.other in
    cc

-- which fault there is behind an opcode
abbrev Failing : ℕ → LoadFault → ℕ → LoadFault → Read Inst → Type 0
Failing len fault n e read = read ≡ Err e → (e ≡ Short len) ⊎ ((e ≡ fault) × (IsOpcode n → ⊥))

made_failing : {A : Type 0} (len : ℕ) (fault : LoadFault) (n : ℕ) (e : LoadFault) (bytes : List ℕ) (item : List ℕ → Read A) (make : A → Inst) → EndsEarly len item → Failing len fault n e (made make (item bytes))
made_failing len fault n e bytes item make early h = inl (bind_early len item (λ y. Ok (make y.0, y.1)) bytes e early (λ y h. absurd cc) h)

plain_failing : (len : ℕ) (fault : LoadFault) (n : ℕ) (e : LoadFault) (bytes : List ℕ) → IsOther n → (o : Option Inst) → o ≡ plain_inst n → Failing len fault n e (plain_at fault o bytes)
plain_failing len fault n e bytes other None is h = inr (sym (err_is fault e h), no_opcode n (record { other = other; plain = sym is }))
plain_failing len fault n e bytes other (Some i) is h = absurd cc

failing : (len : ℕ) (fault : LoadFault) (n : ℕ) (bytes : List ℕ) (e : LoadFault) → Failing len fault n e (operands_at len fault n bytes)
failing len fault n bytes e =
    by_opcode (Failing len fault n e) len fault n bytes
    (λ _. made_failing len fault n e bytes (signed_at len w64) Push (signed_early len w64))
    (λ _. made_failing len fault n e bytes (number_at len w32) Load (number_early len w32))
    (λ _. made_failing len fault n e bytes (number_at len w32) Store (number_early len w32))
    (λ _. made_failing len fault n e bytes (array_at len) (of_array ALoad) (array_early len))
    (λ _. made_failing len fault n e bytes (array_at len) (of_array AStore) (array_early len))
    (λ _. made_failing len fault n e bytes (signed_at len w32) Jump (signed_early len w32))
    (λ _. made_failing len fault n e bytes (signed_at len w32) JumpZero (signed_early len w32))
    (λ other. plain_failing len fault n e bytes other (plain_inst n) refl)

-- a byte that begins no instruction stands at the front
pub record BeginsNone (len : ℕ) (bytes : List ℕ) (e : LoadFault) : Type 0 where
  pub byte : ℕ
  pub rest : List ℕ
  pub is : bytes ≡ byte ∷ rest
  pub none : IsOpcode byte → ⊥
  pub fault : e ≡ BadInst (len - length bytes)

pub inst_failing : (len : ℕ) (bytes : List ℕ) (e : LoadFault) → inst_at len bytes ≡ Err e → (e ≡ Short len) ⊎ BeginsNone len bytes e
unfolding inst_at
inst_failing len [] e h = inl (sym (err_is (Short len) e h))
inst_failing len (n ∷ bytes) e h =
    elim (failing len (BadInst (len - length (n ∷ bytes))) n bytes e h) [
      | inl early ↦ inl early
      | inr none ↦ inr (record { byte = n; rest = bytes; is = refl; none = none.1; fault = none.0 })
    ]

-- and there it is a fault
unread : (len : ℕ) (fault : LoadFault) (n : ℕ) (bytes : List ℕ) → (IsOpcode n → ⊥) → operands_at len fault n bytes ≡ Err fault
unread len fault n bytes none =
    by_opcode (λ read. read ≡ Err fault) len fault n bytes
    (λ e. absurd (none (Push (pos 0), sym e))) (λ e. absurd (none (Load 0, sym e))) (λ e. absurd (none (Store 0, sym e)))
    (λ e. absurd (none (ALoad 0 (pos 0) 0, sym e))) (λ e. absurd (none (AStore 0 (pos 0) 0, sym e)))
    (λ e. absurd (none (Jump (pos 0), sym e))) (λ e. absurd (none (JumpZero (pos 0), sym e)))
    (λ other. plain_unread (plain_inst n) (plain_is n))
  where
    plain_unread : (o : Option Inst) → PlainAt n o → plain_at fault o bytes ≡ Err fault
    plain_unread None p = refl
    plain_unread (Some i) p = absurd (none (i, (p i refl).code))

pub inst_unread : (len : ℕ) (n : ℕ) (bytes : List ℕ) → (IsOpcode n → ⊥) → inst_at len (n ∷ bytes) ≡ Err (BadInst (len - length (n ∷ bytes)))
unfolding inst_at
inst_unread len n bytes none = unread len (BadInst (len - length (n ∷ bytes))) n bytes none
