-- The open obligations of the adder read back in their scopes.
use Rattle.std.proofs.Common.{◌≡◌, inl, inr, ℕ, ◌<◌, Bool, true, false, ◌&&◌, ◌||◌, List, [], ◌∷◌, ◌++◌, refl, ap, sym, ◌∙◌, arith}
use Rattle.std.specs.Prelude.{codes, nat_eq, nat_le}
use Rattle.std.specs.List.{list_all}
use Rattle.std.specs.Str.{encode_utf8_all}
use Rattle.std.specs.Char.{is_ascii_alphabetic, is_ascii_alphanumeric}
use Rattle.std.proofs.lemmas.Bool.{and_parts, and_from}
use Rattle.std.proofs.lemmas.Bool.Decides.{nat_tests}
use Rattle.std.proofs.lemmas.Str.{encode_ascii}
use Rattle.std.specs.Fmt.{digits}
use Rattle.unicode_ident.specs.Ident.{is_xid_start, is_xid_continue}
use Rattle.unicode_ident.proofs.IdentLemmas.{is_xid_start-ascii, is_xid_continue-ascii}
use Rattle.bk_form.specs.Table.{Table, variable_type}
use Rattle.bk_form.specs.Formula.{variable}
use Rattle.bk_lex.specs.Lexis.{IsIdentifier}
use Rattle.bk_raw.specs.declared.script.NamePart.{NamePart}
use Rattle.bk_raw.specs.declared.script.NamePart.TheVariants.{Letters, Numeral}
use Rattle.bk_raw.specs.Meaning.Names.{Names, sight, found}
use Rattle.bk_raw.specs.Meaning.ScopeReading.{variable_meaning}
use Rattle.bk_dev.specs.Development.{Development}
use Rattle.bk_dev.specs.Flattened.{flattened}
use Rattle.bk_po.specs.Examples.{tally, tally_table}
use Rattle.bk_show.specs.Shown.{name_of_variable}
use Rattle.bk_show.specs.Readable.{IsPlainName, IsPrintable}
use Rattle.bk_show.specs.Stands.{Stands}
use Rattle.bk_print.specs.InScope.{own_names}
use Rattle.bk_print.specs.Examples.{TallyReadsInScope}

needs-none : true ≡ false → ⊥
needs-none h = cc

-- ---- names
-- a letter, a digit or an underscore
abbrev is_plain : ℕ → Bool
is_plain c = (is_ascii_alphanumeric c || nat_eq c 95) && nat_le c 127

low : (c : ℕ) → nat_le c 127 ≡ true → c < 128
low c h = grind (arith, nat_tests)

all-plain : (cs : List ℕ) → list_all is_plain cs ≡ true → (list_all is_xid_continue cs ≡ true) × (encode_utf8_all cs ≡ cs)
all-plain [] h = (refl, refl)
all-plain (c ∷ cs) h =
    let parts = and_parts (is_plain c) (list_all is_plain cs) h in
    let one = and_parts (is_ascii_alphanumeric c || nat_eq c 95) (nat_le c 127) parts.0 in
    let more = all-plain cs parts.1 in (
      and_from (is_xid_continue c) (list_all is_xid_continue cs) (is_xid_continue-ascii c (low c one.1) ∙ one.0) more.0,
      ap (λ w. w ++ encode_utf8_all cs) (encode_ascii c (low c one.1)) ∙ ap (λ w. c ∷ w) more.1,
    )

-- a letter, and then such bytes
identifier : (c : ℕ) (cs : List ℕ) → is_ascii_alphabetic c ≡ true → nat_le c 127 ≡ true → list_all is_plain cs ≡ true → IsIdentifier (c ∷ cs)
identifier c cs letter l h =
    let more = all-plain cs h in
    (c ∷ cs, sym (ap (λ w. w ++ encode_utf8_all cs) (encode_ascii c (low c l)) ∙ ap (λ w. c ∷ w) more.1), and_from (is_xid_start c) (list_all is_xid_continue cs) (is_xid_start-ascii c (low c l) ∙ letter) more.0)

machine : IsIdentifier (codes "Tally")
machine = identifier 84 (codes "ally") refl refl refl

implementation : IsIdentifier (codes "Tally_i")
implementation = identifier 84 (codes "ally_i") refl refl refl

operation : IsIdentifier (codes "inc")
operation = identifier 105 (codes "nc") refl refl refl

check : IsIdentifier (codes "chk")
check = identifier 99 (codes "hk") refl refl refl

letter-n : IsIdentifier (codes "n")
letter-n = identifier 110 [] refl refl refl

letter-k : IsPlainName (codes "k")
letter-k = (identifier 107 [] refl refl refl, refl)

-- n$0, n$1 and k
upper-n : IsPrintable (name_of_variable tally_table 0)
unfolding digits
upper-n = inr (codes "n", 0, refl, letter-n, omega arith)

lower-n : IsPrintable (name_of_variable tally_table 1)
unfolding digits
lower-n = inr (codes "n", 1, refl, letter-n, omega arith)

input-k : IsPrintable (name_of_variable tally_table 4)
input-k = inl letter-k

stands-for : (table : Table) (names : Names) (n : ℕ) → found 0 names (name_of_variable table n) ≡ sight 0 (variable_meaning n (variable_type table n)) → Stands table names (variable n)
stands-for table names n h = λ t e. h ∙ ap (λ o. sight 0 (variable_meaning n o)) e

abbrev dev : Development
dev = flattened tally

abbrev in_machine : List NamePart
in_machine = Letters (codes "Tally") ∷ Letters (codes "inc") ∷ Numeral 1 ∷ []

abbrev in_implementation : ℕ → List NamePart
in_implementation n = Letters (codes "Tally_i") ∷ Letters (codes "inc") ∷ Numeral n ∷ []

abbrev in_check : ℕ → List NamePart
in_check n = Letters (codes "Tally_i") ∷ Letters (codes "inc") ∷ Letters (codes "chk") ∷ Numeral n ∷ []

pub tally_reads_in_scope : TallyReadsInScope
unfolding digits
tally_reads_in_scope = (
  λ e. absurd (needs-none e),
  (
    -- n$0 + k : 0..10
    λ e. record {
      name = in_machine;
      named = refl;
      some_part = tt;
      parts = (machine, (operation, (omega arith, tt)));
      binds = ((tt, tt), (tt, tt));
      readable = ((upper-n, input-k), (omega arith, omega arith));
      stands = ((stands-for dev.table (own_names dev in_machine) 0 refl, stands-for dev.table (own_names dev in_machine) 4 refl), (tt, tt));
    },
    (
      λ e. absurd (needs-none e),
      (
        λ e. absurd (needs-none e),
        (
          λ e. absurd (needs-none e),
          (
            -- n$1 + k : 0..10
            λ e. record {
              name = in_implementation 1;
              named = refl;
              some_part = tt;
              parts = (implementation, (operation, (omega arith, tt)));
              binds = ((tt, tt), (tt, tt));
              readable = ((lower-n, input-k), (omega arith, omega arith));
              stands = ((stands-for dev.table (own_names dev (in_implementation 1)) 1 refl, stands-for dev.table (own_names dev (in_implementation 1)) 4 refl), (tt, tt));
            },
            (
              -- n$1 + k = n$0 + k
              λ e. record {
                name = in_implementation 2;
                named = refl;
                some_part = tt;
                parts = (implementation, (operation, (omega arith, tt)));
                binds = ((tt, tt), (tt, tt));
                readable = ((lower-n, input-k), (upper-n, input-k));
                stands = ((stands-for dev.table (own_names dev (in_implementation 2)) 1 refl, stands-for dev.table (own_names dev (in_implementation 2)) 4 refl), (stands-for dev.table (own_names dev (in_implementation 2)) 0 refl, stands-for dev.table (own_names dev (in_implementation 2)) 4 refl));
              },
              (
                λ e. absurd (needs-none e),
                (
                  λ e. absurd (needs-none e),
                  (
                    λ e. absurd (needs-none e),
                    (
                      -- MININT <= n$1 + k
                      λ e. record {
                        name = in_check 1;
                        named = refl;
                        some_part = tt;
                        parts = (implementation, (operation, (check, (omega arith, tt))));
                        binds = (tt, (tt, tt));
                        readable = (omega arith, (lower-n, input-k));
                        stands = (tt, (stands-for dev.table (own_names dev (in_check 1)) 1 refl, stands-for dev.table (own_names dev (in_check 1)) 4 refl));
                      },
                      (
                        -- n$1 + k <= MAXINT
                        λ e. record {
                          name = in_check 2;
                          named = refl;
                          some_part = tt;
                          parts = (implementation, (operation, (check, (omega arith, tt))));
                          binds = ((tt, tt), tt);
                          readable = ((lower-n, input-k), omega arith);
                          stands = ((stands-for dev.table (own_names dev (in_check 2)) 1 refl, stands-for dev.table (own_names dev (in_check 2)) 4 refl), tt);
                        },
                        tt,
                      ),
                    ),
                  ),
                ),
              ),
            ),
          ),
        ),
      ),
    ),
  ),
)
