-- What holds of spellings.
use Rattle.std.specs.Prelude.{◌≡◌, ◌≢◌, ◌<◌, ℕ, List, All}
use Rattle.bk_code.specs.declared.image.Image.{Image}
use Rattle.bk_image.specs.declared.fault.LoadFault.{LoadFault}
use Rattle.bk_image.specs.declared.fault.LoadFault.TheVariants as faults
use Rattle.bk_image.specs.Spelling.{HasSpelling, spelling}
use Rattle.bk_image.specs.Encoding.{Encodes, IsFault}

-- two images that have spellings have different ones
abbrev pub HasOneImage : Type 0
HasOneImage = (a b : Image) → HasSpelling a → HasSpelling b → spelling a ≡ spelling b → a ≡ b

-- bytes encode one image at most
abbrev pub EncodesOne : Type 0
EncodesOne = (bytes : List ℕ) (a b : Image) → Encodes bytes a → Encodes bytes b → a ≡ b

-- the bytes are numbers below 256
abbrev pub AreBytes : List ℕ → Type 0
AreBytes bytes = All (λ byte. byte < 256) bytes

-- bytes that encode an image have no fault
abbrev pub FaultsExclude : Type 0
FaultsExclude = (bytes : List ℕ) (image : Image) (e : LoadFault) →
    AreBytes bytes → Encodes bytes image → IsFault bytes e → e ≡ faults.Memory

-- the fault is one of the bytes, and no want of memory
pub record IsFaultOfBytes (bytes : List ℕ) (e : LoadFault) : Type 0 where
  pub is : IsFault bytes e
  pub no_want : e ≢ faults.Memory

-- bytes have one fault at most, but for want of memory
abbrev pub HasOneFault : Type 0
HasOneFault = (bytes : List ℕ) (e f : LoadFault) → AreBytes bytes → IsFaultOfBytes bytes e → IsFaultOfBytes bytes f → e ≡ f
