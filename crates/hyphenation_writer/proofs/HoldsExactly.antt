-- Each kind of dictionary holds exactly the contents of its texts.
use Rattle.std.proofs.Common.{◌≡◌, ℕ, Option, None, refl}
use Rattle.hyphenation_breaks.specs.Break.{Change, plain_break, break_at}
use Rattle.hyphenation_writer.specs.Laws.{Held, HoldsExactly}
use Rattle.hyphenation_grammar.specs.Reading.{no_payload, place_as_listing, change_as_payload, break_as_listing}
use Rattle.hyphenation_grammar.specs.declared.form.Kind.TheVariants.{Standard, Extended}

abbrev pub standard_held : Held (Unit {0}) ℕ
standard_held = record { payload_of = no_payload; listing_of = place_as_listing; change_of = λ _. None; break_of = plain_break }

pub standard_holds : HoldsExactly Standard standard_held
standard_holds = record {
  changes = λ c. refl;
  breaks = λ b. refl;
  no_change = λ is c. refl;
  no_listed_change = λ is b. refl;
}

other : Extended ≡ Standard → ⊥
other is = cc

abbrev pub extended_held : Held (Option Change) (ℕ × Option Change)
extended_held = record { payload_of = change_as_payload; listing_of = break_as_listing; change_of = λ change. change; break_of = λ b. break_at b.0 b.1 }

pub extended_holds : HoldsExactly Extended extended_held
extended_holds = record {
  changes = λ c. refl;
  breaks = λ b. refl;
  no_change = λ is c. absurd (other is);
  no_listed_change = λ is b. absurd (other is);
}
