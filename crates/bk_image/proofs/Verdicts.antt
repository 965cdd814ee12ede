-- Bytes that encode an image have no fault.
use Rattle.std.proofs.Common.{◌≡◌, ℕ, ℤ, ◌+◌, ◌⊎◌, List, [], length, Result, Ok, Err, refl, sym, ap, subst, ◌∙◌, arith, inl, inr}
use Rattle.std.specs.Prelude.{IfOk, IfErr}
use Rattle.std.proofs.lemmas.Bool.{cases_lt}
use Rattle.std.proofs.lemmas.List.{append-nil, get_or_past}
use Rattle.bk_code.specs.declared.image.Image.{Image}
use Rattle.bk_code.specs.declared.image.OpEntry.{OpEntry}
use Rattle.bk_code.specs.declared.image.Parameter.{Parameter}
use Rattle.bk_code.specs.declared.instruction.Inst.{Inst}
use Rattle.bk_code.specs.declared.instruction.Inst.TheVariants.{Push, Load, Store, ALoad, AStore, Jump, JumpZero}
use Rattle.bk_image.specs.declared.fault.LoadFault.{LoadFault}
use Rattle.bk_image.specs.declared.fault.LoadFault.TheVariants.{Short, Magic, Version, BadInst, BadJump, BadSlot, Stack, Extra}
use Rattle.bk_image.specs.declared.fault.LoadFault.TheVariants as faults
use Rattle.bk_image.specs.declared.version.ImageVersion.{ImageVersion}
use Rattle.bk_image.specs.Spelling.{laid_out, version_of, spelling, FitsFields, text, parameters}
use Rattle.bk_image.specs.Reading.{layout_of, Fails}
use Rattle.bk_image.specs.Faults.{IsFirst, IsParametersFault, IsEntryFault, IsArrayFault, IsOperandFault, IsNumberFault}
use Rattle.bk_image.specs.Stack.{IsFirstStackFault}
use Rattle.bk_image.specs.Encoding.{Encodes, IsFirstNumberFault, IsFirstDepthFault, IsFault}
use Rattle.bk_image.specs.Laws.{HasOneImage, EncodesOne, AreBytes, FaultsExclude}
use Rattle.bk_image.proofs.Fields.{IsBytes}
use Rattle.bk_image.proofs.Layouts.{layout_fault, layout_again, known_magic, known_version, known_inst, known_extra}
use Rattle.bk_image.specs.Soundness.{AreRight}
use Rattle.bk_image.proofs.FirstNumber.{no_number_fault}
use Rattle.bk_image.proofs.Judging.{no_stack_fault}

abbrev pub read_as : Image → Result Image LoadFault
read_as image = Ok image

abbrev pub laid_as : ImageVersion × Image → Result (ImageVersion × Image) LoadFault
laid_as x = Ok x

pub layout_is : (x y : ImageVersion × Image) → laid_as x ≡ laid_as y → x ≡ y
layout_is x y e = cc

pub one_layout : (v w : ImageVersion) (a b : Image) → FitsFields v a → FitsFields w b → laid_out v a ≡ laid_out w b → ◌≡◌ {A = ImageVersion × Image} (v, a) (w, b)
one_layout v w a b p q e = layout_is (v, a) (w, b) (sym (layout_again v a p) ∙ ap layout_of e ∙ layout_again w b q)

pub one_image : HasOneImage
one_image a b p q e = ap (λ (x : ImageVersion × Image). x.1) (one_layout (version_of a) (version_of b) a b p.fits q.fits e)

pub encodes_one : EncodesOne
encodes_one bytes a b p q = one_image a b p.spelled q.spelled (sym p.is ∙ q.is)

pub bytes_fit : (bytes : List ℕ) → AreBytes bytes → IsBytes bytes
bytes_fit bytes h i =
    elim (cases_lt i (length bytes)) [
      | inl lt ↦ h i 0 lt
      | inr past ↦ rw (get_or_past bytes i 0 past) (omega arith)
    ]

reads_on : (bytes : List ℕ) (image : Image) (e : LoadFault) → Encodes bytes image → layout_of bytes ≡ Err e → ⊥
reads_on bytes image e h failed =
    let read : layout_of bytes ≡ Ok (version_of image, image) = ap layout_of h.is ∙ layout_again (version_of image) image h.spelled.fits in
    cc

number_wrong : (bytes : List ℕ) (image : Image) (e : LoadFault) → Encodes bytes image → IsFirstNumberFault bytes e → ⊥
number_wrong bytes image e h f =
    let same : ◌≡◌ {A = ImageVersion × Image} (f.version, f.image) (version_of image, image) = one_layout f.version (version_of image) f.image image f.fits h.spelled.fits (sym f.is ∙ h.is) in
    let right : AreRight (version_of image) image = record { numbered = h.loadable.numbered; version = refl; few_sets = h.spelled.few_sets; few_elements = h.spelled.few_elements } in
    no_number_fault (version_of image) image e right (subst (λ (x : ImageVersion × Image). IsNumberFault x.0 x.1 e) same f.first.is)

stack_wrong : (bytes : List ℕ) (image : Image) (at : ℕ) → Encodes bytes image → IsFirstDepthFault bytes at → ⊥
stack_wrong bytes image at h f =
    let same : f.image ≡ image = one_image f.image image f.spelled h.spelled (sym f.is ∙ h.is) in
    let first : IsFirstStackFault image at = subst (λ i. IsFirstStackFault i at) same f.first in
    no_stack_fault image first.inst h.loadable first.is

no_fault : (bytes : List ℕ) (image : Image) (e : LoadFault) → IsBytes bytes → Encodes bytes image → IsFault bytes e → e ≡ faults.Memory
no_fault bytes image (Short at) fits h f = absurd (f.whole (version_of image) image [] h.spelled.fits (h.is ∙ sym (append-nil (spelling image))))
no_fault bytes image Magic fits h f = absurd (reads_on bytes image Magic h (known_magic bytes fits f))
no_fault bytes image (Version n) fits h f = absurd (reads_on bytes image (Version n) h (known_version bytes n f))
no_fault bytes image (BadInst at) fits h f = absurd (reads_on bytes image (BadInst at) h (known_inst bytes at f))
no_fault bytes image (Extra at) fits h f = absurd (reads_on bytes image (Extra at) h (known_extra bytes at f))
no_fault bytes image (BadJump at) fits h f = absurd (number_wrong bytes image (BadJump at) h f)
no_fault bytes image (BadSlot at) fits h f = absurd (number_wrong bytes image (BadSlot at) h f)
no_fault bytes image (Stack at) fits h f = absurd (stack_wrong bytes image at h f)
no_fault bytes image faults.Memory fits h f = refl

pub faults_exclude : FaultsExclude
faults_exclude bytes image e fits h f = no_fault bytes image e (bytes_fit bytes fits) h f

-- an answer that is right by its kind is the image that is encoded, unless memory ran out
pub verdict : (bytes : List ℕ) (r : Result Image LoadFault) → IsBytes bytes → IfOk r (Encodes bytes) → IfErr r (IsFault bytes) → (image : Image) → Encodes bytes image → (r ≡ Ok image) ⊎ (r ≡ Err faults.Memory)
verdict bytes (Ok found) fits ok err image h = inl (ap read_as (encodes_one bytes found image ok h))
verdict bytes (Err e) fits ok err image h = inr (ap (λ x. Err x) (no_fault bytes image e fits h err))

-- ---- which faults the numbers have

-- it is one of the two that numbers have
abbrev pub Kind : LoadFault → Type 0
Kind e = (at : ℕ) × ((e ≡ BadSlot at) ⊎ (e ≡ BadJump at))

parameters_kind : (image : Image) (at : ℕ) (ps : List Parameter) (e : LoadFault) → IsParametersFault image at ps e → Kind e
parameters_kind image at ps e (k, p, get, inl f) = (_, inl f.0)
parameters_kind image at ps e (k, p, get, inr f) = (_, inl f.0)

entry_kind : (image : Image) (k at : ℕ) (op : OpEntry) (e : LoadFault) → IsEntryFault image k at op e → Kind e
entry_kind image k at op e (inl f) = (_, inl f.0)
entry_kind image k at op e (inr (inl f)) = parameters_kind image (at + length (text op.name) + 4) op.inputs e f
entry_kind image k at op e (inr (inr f)) = parameters_kind image (at + length (text op.name) + 4 + length (parameters op.inputs)) op.outputs e f

array_kind : (image : Image) (at base : ℕ) (low : ℤ) (count : ℕ) (e : LoadFault) → IsArrayFault image at base low count e → Kind e
array_kind image at base low count e (inl f) = (_, inl f.0)
array_kind image at base low count e (inr (inl f)) = (_, inl f.0)
array_kind image at base low count e (inr (inr f)) = (_, inl f.0)

operand_kind : (image : Image) (k at : ℕ) (i : Inst) (e : LoadFault) → IsOperandFault image k at i e → Kind e
operand_kind image k at (Push n) e f = (_, inl f.0)
operand_kind image k at (Load slot) e f = (_, inl f.0)
operand_kind image k at (Store slot) e f = (_, inl f.0)
operand_kind image k at (ALoad base low count) e f = array_kind image (at + 1) base low count e f
operand_kind image k at (AStore base low count) e f = array_kind image (at + 1) base low count e f
operand_kind image k at (Jump distance) e f = (_, inr f.0)
operand_kind image k at (JumpZero distance) e f = (_, inr f.0)
operand_kind image k at _ e f = absurd f

pub number_kind : (v : ImageVersion) (image : Image) (e : LoadFault) → IsNumberFault v image e → Kind e
number_kind v image e (inl f) = (6, inl f.0)
number_kind v image e (inr (inl f)) = (_, inl f.0)
number_kind v image e (inr (inr (inl f))) = (_, inl f.0)
number_kind v image e (inr (inr (inr (inl (k, names, get, f))))) = (_, inl f.0)
number_kind v image e (inr (inr (inr (inr (inl (k, op, get, f)))))) = entry_kind image k _ op e f
number_kind v image e (inr (inr (inr (inr (inr (inl f)))))) = (_, inr f.0)
number_kind v image e (inr (inr (inr (inr (inr (inr (k, i, get, inl f))))))) = operand_kind image k _ i e f
number_kind v image e (inr (inr (inr (inr (inr (inr (k, i, get, inr f))))))) = (_, inr f.0)

-- the first fault of the numbers is one of the bytes
pub number_fault_of : (bytes : List ℕ) (v : ImageVersion) (image : Image) (e : LoadFault) → FitsFields v image → bytes ≡ laid_out v image → IsFirst (IsNumberFault v image) e → IsFault bytes e
number_fault_of bytes v image e fits is first =
    let f : IsFirstNumberFault bytes e = record { version = v; image = image; fits = fits; is = is; first = first } in
    let kind = number_kind v image e first.is in
    elim kind.1 [
      | inl slot ↦ subst (IsFault bytes) (sym slot) (subst (IsFirstNumberFault bytes) slot f)
      | inr jump ↦ subst (IsFault bytes) (sym jump) (subst (IsFirstNumberFault bytes) jump f)
    ]

-- the fault of the layout is one of the bytes
pub layout_fault_of : (bytes : List ℕ) (e : LoadFault) → IsBytes bytes → Fails e (layout_of bytes) → IsFault bytes e
layout_fault_of bytes (Short at) fits h = layout_fault bytes (Short at) fits h
layout_fault_of bytes Magic fits h = layout_fault bytes Magic fits h
layout_fault_of bytes (Version n) fits h = layout_fault bytes (Version n) fits h
layout_fault_of bytes (BadInst at) fits h = layout_fault bytes (BadInst at) fits h
layout_fault_of bytes (Extra at) fits h = layout_fault bytes (Extra at) fits h
layout_fault_of bytes (BadJump at) fits h = absurd (layout_fault bytes (BadJump at) fits h)
layout_fault_of bytes (BadSlot at) fits h = absurd (layout_fault bytes (BadSlot at) fits h)
layout_fault_of bytes (Stack at) fits h = absurd (layout_fault bytes (Stack at) fits h)
layout_fault_of bytes faults.Memory fits h = tt
