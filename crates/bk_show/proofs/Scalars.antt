-- An identifier is UTF-8: its characters are scalar values of Unicode.
use Rattle.std.proofs.Common.{◌≡◌, ℕ, true, not, ◌||◌, List, [], ◌∷◌, refl, sym, arith, subst, IsUtf8}
use Rattle.std.specs.List.{list_all}
use Rattle.std.proofs.lemmas.Bool.{and_parts, and_from}
use Rattle.std.proofs.lemmas.Bool.Decides.{nat_tests}
use lib.Utf8.{scalar, scalars}
use Rattle.ucd_table.specs.Rows.{Range, in_ranges}
use Rattle.ucd_table.proofs.Stepped.{zip_stepped, of_ranges}
use Rattle.ucd_table.proofs.StepsLemmas.{rises_from}
use Rattle.ucd_table.proofs.Facts.{Stepped-everywhere}
use Rattle.ucd_derived.proofs.BinaryLemmas.{is_xid_continue_stepped}
use Rattle.unicode_ident.specs.Ident.{is_xid_start, is_xid_continue}
use Rattle.unicode_ident.proofs.IdentLemmas.{is_xid_start-is_xid_continue}
use Rattle.unicode_ident.proofs.Computing.{unicode_ident}
use Rattle.bk_lex.specs.Lexis.{is_identifier, IsIdentifier}

abbrev scalar_ranges : List Range
scalar_ranges = (0, 0xD7FF) ∷ (0xE000, 0x10_FFFF) ∷ []

in-ranges-scalar : (c : ℕ) → in_ranges scalar_ranges c ≡ true → scalar c ≡ true
unfolding in_ranges
in-ranges-scalar c h = grind (arith, nat_tests)

continues-scalar : (c : ℕ) → is_xid_continue c ≡ true → scalar c ≡ true
unfolding unicode_ident in_ranges rises_from
continues-scalar c h =
    let both = zip_stepped (λ a b. not a || b) is_xid_continue (in_ranges scalar_ranges) is_xid_continue_stepped (of_ranges scalar_ranges refl) in
    in-ranges-scalar c (subst (λ a. (not a || in_ranges scalar_ranges c) ≡ true) h (Stepped-everywhere _ both refl c))

continue-scalars : (cs : List ℕ) → list_all is_xid_continue cs ≡ true → scalars cs ≡ true
continue-scalars [] h = refl
continue-scalars (c ∷ cs) h =
    let parts = and_parts (is_xid_continue c) (list_all is_xid_continue cs) h in
    and_from (scalar c) (scalars cs) (continues-scalar c parts.0) (continue-scalars cs parts.1)

identifier-scalars : (cs : List ℕ) → is_identifier cs ≡ true → scalars cs ≡ true
identifier-scalars [] h = refl
identifier-scalars (c ∷ cs) h =
    let parts = and_parts (is_xid_start c) (list_all is_xid_continue cs) h in
    and_from (scalar c) (scalars cs) (continues-scalar c (is_xid_start-is_xid_continue c parts.0)) (continue-scalars cs parts.1)

pub identifier-utf8 : (text : List ℕ) → IsIdentifier text → IsUtf8 text
identifier-utf8 text h = (h.0, (identifier-scalars h.0 h.2, sym h.1))
