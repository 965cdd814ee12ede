-- Items of reports and the rows of status tables that they are, and what reports have of files.
use Rattle.std.specs.Prelude.{◌≡◌, ℕ, Bool, true, false, ◌&&◌, List, length, not, count_by, string_bytes}
use Rattle.hex.specs.Hex.{encode_lower}
use Rattle.sha2.specs.Sha256.{sha256}
use Rattle.bk_status.specs.declared.state.State.{State}
use Rattle.bk_status.specs.declared.table.Row.{Row}
use Rattle.bk_status.specs.Rows.{is_settled}
use Rattle.bk_report.specs.Table.{is_obvious_state, is_proved_state}
use Rattle.bk_origins.specs.Concerns.{concern_of}
use Rattle.bk_origins.specs.declared.concern.Concern.{Concern}
use Rattle.bk_origins.specs.declared.concern.Concern.TheVariants.{Initialisation, Operation, Assertion, Values, Definedness, Other}
use Rattle.bk_evidence.specs.declared.claim.Claims.{Claims}
use Rattle.bk_evidence.specs.declared.claim.TheConstants.{PROVED, TRUSTED, NOT_CLAIMED}
use Rattle.bk_evidence.specs.declared.item.Item.{Item}
use Rattle.bk_evidence.specs.declared.item.Proof.{Proof}
use Rattle.bk_evidence.specs.declared.report.File.{File}
use Rattle.bk_evidence.specs.declared.report.Input.{Input}
use Rattle.bk_evidence.specs.declared.sums.Sums.{Sums}

-- the row of an item
abbrev pub row_of : Item → Row
row_of item = record { name = item.name; state = item.state }

-- what it has of a proof
abbrev pub known_of : Item → Proof
known_of item = record { script = item.script; shown = item.shown }

-- how many items are of such a state
abbrev pub count_items : (State → Bool) → List Item → ℕ
count_items is_such items = count_by (λ item. is_such item.state) items

-- how many there are, and how many are obvious, proved and neither
abbrev pub sums_over : List Item → Sums
sums_over items = record {
  obligations = length items;
  obvious = count_items is_obvious_state items;
  proved = count_items is_proved_state items;
  left = count_items (λ state. not (is_settled state)) items;
}

-- ---- kinds of obligations
-- whether both are the same
abbrev pub is_same : Concern → Concern → Bool
is_same Initialisation Initialisation = true
is_same Operation Operation = true
is_same Assertion Assertion = true
is_same Values Values = true
is_same Definedness Definedness = true
is_same Other Other = true
is_same _ _ = false

-- whether the obligation is of the kind, by its name
abbrev pub is_of : Concern → Item → Bool
is_of concern item = is_same concern (concern_of item.name)

-- how many items of the kind are of such a state
abbrev pub count_of : Concern → (State → Bool) → List Item → ℕ
count_of concern is_such items = count_by (λ item. is_of concern item && is_such item.state) items

-- the sums over those of the kind
abbrev pub sums_with : Concern → List Item → Sums
sums_with concern items = record {
  obligations = count_by (is_of concern) items;
  obvious = count_of concern is_obvious_state items;
  proved = count_of concern is_proved_state items;
  left = count_of concern (λ state. not (is_settled state)) items;
}

-- ---- files that were read
-- what a report has of a file: its name, how many bytes it has, and its SHA-256 (FIPS 180-4) in hexadecimal digits
abbrev pub parts_of : Input → List ℕ × ℕ × List ℕ
parts_of input = (input.name, input.length, string_bytes input.digest)

-- a file as a name and a text
abbrev pub pair_of : File → List ℕ × List ℕ
pair_of file = (file.name.now, file.text.now)

-- and what a report has of it
abbrev pub parts_of_pair : List ℕ × List ℕ → List ℕ × ℕ × List ℕ
parts_of_pair file = (file.0, length file.1, encode_lower (sha256 file.1))

-- the same of a file as it was read
abbrev pub parts_of_file : File → List ℕ × ℕ × List ℕ
parts_of_file file = parts_of_pair (pair_of file)

-- ---- claims
-- what each report claims
pub record AreStated (claims : Claims) : Type 0 where
  pub proved : claims.proved.now ≡ PROVED.now
  pub trusted : claims.trusted.now ≡ TRUSTED.now
  pub not_claimed : claims.not_claimed.now ≡ NOT_CLAIMED.now
