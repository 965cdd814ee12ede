-- The faults of parameters, operations and instructions stand within them, and good ones have none.
use Rattle.std.proofs.Common.{ℕ, ◌+◌, ◌<◌, ◌≤◌, List, length, refl, sym, subst, arith, inl, inr, ℤ}
use Rattle.std.specs.Prelude.{All, Option, Some, None, MatchOption}
use Rattle.bk_code.specs.declared.image.Image.{Image}
use Rattle.bk_code.specs.declared.image.OpEntry.{OpEntry}
use Rattle.bk_code.specs.declared.image.Parameter.{Parameter}
use Rattle.bk_code.specs.declared.instruction.Inst.{Inst}
use Rattle.bk_code.specs.declared.instruction.Inst.TheVariants.{Push, Load, Store, ALoad, AStore, Jump, JumpZero}
use Rattle.bk_code.specs.Numbers.{int_max}
use Rattle.bk_code.specs.Checks.{IsGoodParameter, IsGoodEntry, IsArray, IsGoodInst}
use Rattle.bk_image.specs.declared.fault.LoadFault.{LoadFault}
use Rattle.bk_image.specs.declared.fault.LoadFault.TheVariants.{BadSlot}
use Rattle.bk_image.specs.Spelling.{text, set, parameter, parameters, entry, inst, HasFewElements}
use Rattle.bk_image.specs.Faults.{place, IsFirst, IsParameterFault, IsParametersFault, IsEntryFault, IsArrayFault, IsOperandFault, IsOneInstFault, IsSetFault}
use Rattle.bk_image.specs.Soundness.{IsSound}
use Rattle.bk_image.proofs.Arrays.{inside}
use Rattle.bk_image.proofs.FaultLists.{Judges, none_in, within_in}
use Rattle.bk_image.proofs.Sizes.{set_size, parameter_size, parameter_sizes, parameters_size, entry_size, size_of, inst_size}

abbrev StandsIn : ℕ → ℕ → LoadFault → Type 0
StandsIn low high e = (low ≤ place e) × (place e < high)

set_within : (image : Image) (k at : ℕ) (names : List (List ℕ)) (e : LoadFault) → IsSetFault image k at names e → StandsIn at (at + length (set names)) e
set_within image k at names e f = subst (StandsIn at (at + length (set names))) (sym f.0) (omega arith, omega (arith, set_size names))

pub set_judges : (image : Image) → Judges set (IsSetFault image) (λ k names. HasFewElements (int_max image) names)
set_judges image = record { within = set_within image; none = λ k at names e good f. f.1 good }

-- the one fault of a set
pub first_few : (image : Image) (k at : ℕ) (names : List (List ℕ)) → (HasFewElements (int_max image) names → ⊥) → IsFirst (IsSetFault image k at names) (BadSlot at)
first_few image k at names many = record { is = (refl, many); least = λ other f. subst (λ e. at ≤ place e) (sym f.0) (omega arith) }

parameter_within : (image : Image) (k at : ℕ) (p : Parameter) (e : LoadFault) → IsParameterFault image k at p e → StandsIn at (at + length (parameter p)) e
parameter_within image k at p e (inl f) = subst (StandsIn at (at + length (parameter p))) (sym f.0) (omega arith, omega (arith, parameter_size p))
parameter_within image k at p e (inr f) = subst (StandsIn at (at + length (parameter p))) (sym f.0) (omega arith, omega (arith, parameter_size p))

parameter_none : (image : Image) (k at : ℕ) (p : Parameter) (e : LoadFault) → IsGoodParameter image p → IsParameterFault image k at p e → ⊥
parameter_none image k at p e good (inl f) = f.1 good.kind
parameter_none image k at p e good (inr f) = let h = good.slot in omega (arith, f.1)

pub parameter_judges : (image : Image) → Judges parameter (IsParameterFault image) (λ k p. IsGoodParameter image p)
parameter_judges image = record { within = parameter_within image; none = parameter_none image }

pub parameters_within : (image : Image) (at : ℕ) (ps : List Parameter) (e : LoadFault) → IsParametersFault image at ps e → StandsIn at (at + length (parameters ps)) e
parameters_within image at ps e f =
    let h = within_in parameter (IsParameterFault image) (λ k p. IsGoodParameter image p) (parameter_judges image) (at + 2) ps e f in
    (omega (arith, h.0), omega (arith, h.1, parameter_sizes ps, parameters_size ps))

entry_within : (image : Image) (k at : ℕ) (op : OpEntry) (e : LoadFault) → IsEntryFault image k at op e → StandsIn at (at + length (entry op)) e
entry_within image k at op e (inl f) = subst (StandsIn at (at + length (entry op))) (sym f.0) (omega arith, omega (arith, entry_size op))
entry_within image k at op e (inr (inl f)) =
    let h = parameters_within image (at + length (text op.name) + 4) op.inputs e f in
    (omega (arith, h.0), omega (arith, h.1, entry_size op))
entry_within image k at op e (inr (inr f)) =
    let h = parameters_within image (at + length (text op.name) + 4 + length (parameters op.inputs)) op.outputs e f in
    (omega (arith, h.0), omega (arith, h.1, entry_size op))

pub parameters_none : (image : Image) (at : ℕ) (ps : List Parameter) (e : LoadFault) → All (IsGoodParameter image) ps → IsParametersFault image at ps e → ⊥
parameters_none image at ps e good f = none_in parameter (IsParameterFault image) (λ k p. IsGoodParameter image p) (parameter_judges image) (at + 2) ps e good f

entry_none : (image : Image) (k at : ℕ) (op : OpEntry) (e : LoadFault) → IsGoodEntry image op → IsEntryFault image k at op e → ⊥
entry_none image k at op e good (inl f) = let h = good.start in omega (arith, f.1)
entry_none image k at op e good (inr (inl f)) = parameters_none image (at + length (text op.name) + 4) op.inputs e good.inputs f
entry_none image k at op e good (inr (inr f)) = parameters_none image (at + length (text op.name) + 4 + length (parameters op.inputs)) op.outputs e good.outputs f

pub entry_judges : (image : Image) → Judges entry (IsEntryFault image) (λ k op. IsGoodEntry image op)
entry_judges image = record { within = entry_within image; none = entry_none image }

-- ---- instructions

array_within : (image : Image) (at base : ℕ) (low : ℤ) (count : ℕ) (e : LoadFault) → IsArrayFault image at base low count e → StandsIn at (at + 16) e
array_within image at base low count e (inl f) = subst (StandsIn at (at + 16)) (sym f.0) (omega arith, omega arith)
array_within image at base low count e (inr (inl f)) = subst (StandsIn at (at + 16)) (sym f.0) (omega arith, omega arith)
array_within image at base low count e (inr (inr f)) = subst (StandsIn at (at + 16)) (sym f.0) (omega arith, omega arith)

array_none : (image : Image) (at base : ℕ) (low : ℤ) (count : ℕ) (e : LoadFault) → IsArray image base low count → IsArrayFault image at base low count e → ⊥
array_none image at base low count e good (inl f) = let h = good.cells in omega (arith, f.1)
array_none image at base low count e good (inr (inl f)) = inside (int_max image) low count f.1 (good.least, good.greatest)
array_none image at base low count e good (inr (inr f)) = let h = good.some in omega (arith, f.1)

operand_within : (image : Image) (k at : ℕ) (i : Inst) (e : LoadFault) → IsOperandFault image k at i e → StandsIn at (at + size_of i) e
operand_within image k at (Push n) e f = subst (StandsIn at (at + 9)) (sym f.0) (omega arith, omega arith)
operand_within image k at (Load slot) e f = subst (StandsIn at (at + 5)) (sym f.0) (omega arith, omega arith)
operand_within image k at (Store slot) e f = subst (StandsIn at (at + 5)) (sym f.0) (omega arith, omega arith)
operand_within image k at (ALoad base low count) e f = let h = array_within image (at + 1) base low count e f in (omega (arith, h.0), omega (arith, h.1))
operand_within image k at (AStore base low count) e f = let h = array_within image (at + 1) base low count e f in (omega (arith, h.0), omega (arith, h.1))
operand_within image k at (Jump distance) e f = subst (StandsIn at (at + 5)) (sym f.0) (omega arith, omega arith)
operand_within image k at (JumpZero distance) e f = subst (StandsIn at (at + 5)) (sym f.0) (omega arith, omega arith)
operand_within image k at _ e f = absurd f

operand_none : (image : Image) (k at : ℕ) (i : Inst) (e : LoadFault) → IsGoodInst image k i → IsOperandFault image k at i e → ⊥
operand_none image k at (Push n) e good f = f.1 good
operand_none image k at (Load slot) e good f = omega (arith, f.1)
operand_none image k at (Store slot) e good f = omega (arith, f.1)
operand_none image k at (ALoad base low count) e good f = array_none image (at + 1) base low count e good f
operand_none image k at (AStore base low count) e good f = array_none image (at + 1) base low count e good f
operand_none image k at (Jump distance) e good f = f.1 good
operand_none image k at (JumpZero distance) e good f = f.1 good
operand_none image k at _ e good f = f

some_bytes : (i : Inst) → 1 ≤ size_of i
some_bytes (Push n) = omega arith
some_bytes (Load slot) = omega arith
some_bytes (Store slot) = omega arith
some_bytes (ALoad base low count) = omega arith
some_bytes (AStore base low count) = omega arith
some_bytes (Jump distance) = omega arith
some_bytes (JumpZero distance) = omega arith
some_bytes _ = omega arith

inst_within : (image : Image) (k at : ℕ) (i : Inst) (e : LoadFault) → IsOneInstFault image k at i e → StandsIn at (at + length (inst i)) e
inst_within image k at i e (inl f) = let h = operand_within image k at i e f in (h.0, omega (arith, h.1, inst_size i))
inst_within image k at i e (inr f) = subst (StandsIn at (at + length (inst i))) (sym f.0) (omega arith, omega (arith, inst_size i, some_bytes i))

inst_none : (image : Image) (k at : ℕ) (i : Inst) (e : LoadFault) → IsSound image k i → IsOneInstFault image k at i e → ⊥
inst_none image k at i e sound (inl f) = operand_none image k at i e sound.good f
inst_none image k at i e sound (inr f) = f.2 (sound.last f.1)

pub inst_judges : (image : Image) → Judges inst (IsOneInstFault image) (IsSound image)
inst_judges image = record { within = inst_within image; none = inst_none image }

-- ---- the first fault of an operation

abbrev inputs_at : ℕ → OpEntry → ℕ
inputs_at at op = at + length (text op.name) + 4

abbrev outputs_at : ℕ → OpEntry → ℕ
outputs_at at op = inputs_at at op + length (parameters op.inputs)

pub first_start : (image : Image) (at : ℕ) (op : OpEntry) → length image.code ≤ op.start → IsFirst (IsEntryFault image 0 at op) (BadSlot (at + length (text op.name)))
first_start image at op past = record { is = inl (refl, past); least = later }
  where
    later : (other : LoadFault) → IsEntryFault image 0 at op other → at + length (text op.name) ≤ place other
    later other (inl f) = subst (λ e. at + length (text op.name) ≤ place e) (sym f.0) (omega arith)
    later other (inr (inl f)) = let h = parameters_within image (inputs_at at op) op.inputs other f in omega (arith, h.0)
    later other (inr (inr f)) = let h = parameters_within image (outputs_at at op) op.outputs other f in omega (arith, h.0)

pub first_inputs : (image : Image) (at : ℕ) (op : OpEntry) (e : LoadFault) → op.start < length image.code → IsFirst (IsParametersFault image (inputs_at at op) op.inputs) e → IsFirst (IsEntryFault image 0 at op) e
first_inputs image at op e stands first = record { is = inr (inl first.is); least = later }
  where
    later : (other : LoadFault) → IsEntryFault image 0 at op other → place e ≤ place other
    later other (inl f) = let h = f.1 in absurd (omega arith)
    later other (inr (inl f)) = first.least other f
    later other (inr (inr f)) =
        let h = parameters_within image (outputs_at at op) op.outputs other f in
        let mine = parameters_within image (inputs_at at op) op.inputs e first.is in
        omega (arith, h.0, mine.1)

first_outputs : (image : Image) (at : ℕ) (op : OpEntry) (e : LoadFault) → op.start < length image.code → All (IsGoodParameter image) op.inputs → IsFirst (IsParametersFault image (outputs_at at op) op.outputs) e → IsFirst (IsEntryFault image 0 at op) e
first_outputs image at op e stands good first = record { is = inr (inr first.is); least = later }
  where
    later : (other : LoadFault) → IsEntryFault image 0 at op other → place e ≤ place other
    later other (inl f) = let h = f.1 in absurd (omega arith)
    later other (inr (inl f)) = absurd (parameters_none image (inputs_at at op) op.inputs other good f)
    later other (inr (inr f)) = first.least other f

pub judged_entry : (image : Image) (at : ℕ) (op : OpEntry) (r : Option LoadFault) → op.start < length image.code → All (IsGoodParameter image) op.inputs
    → MatchOption r (All (IsGoodParameter image) op.outputs) (λ e. IsFirst (IsParametersFault image (outputs_at at op) op.outputs) e)
    → MatchOption r (IsGoodEntry image op) (λ e. IsFirst (IsEntryFault image 0 at op) e)
judged_entry image at op None stands inputs h = record { start = stands; inputs = inputs; outputs = h }
judged_entry image at op (Some e) stands inputs h = first_outputs image at op e stands inputs h
