-- A dictionary of a `.dic` has the language and the minima that the arguments give.
use Rattle.std.proofs.Common.{◌≡◌, refl, sym, subst, ℕ, List}
use Rattle.std.specs.Prelude.{Option, Some, None, IfSome}
use Rattle.hyphenation_breaks.specs.Break.{Change}
use Rattle.hyphenation_breaks.specs.Dictionary.{Contents}
use Rattle.libreoffice_files.specs.LibreOfficeLines.{minimum_of}
use Rattle.libreoffice_files.specs.LibreOffice.{contents_of_dic}
use Rattle.convert_command.specs.Written.{IsFor}

-- A minimum that is given counts, whatever the file says.
given_counts : (given said : Option ℕ) → IfSome given (λ g. minimum_of given said ≡ g)
given_counts None said = tt
given_counts (Some g) said = refl

pub dic_is_for : {C B : Type 0} (change_of : C → Option Change) (payload_of : Option Change → C) (code : List ℕ)
    (left right : Option ℕ) (bytes : List ℕ) (dictionary : Contents C B)
    → dictionary ≡ contents_of_dic change_of payload_of code left right bytes → IsFor code left right dictionary
dic_is_for change_of payload_of code left right bytes dictionary e =
    subst (λ d. IsFor code left right d) (sym e) (refl, given_counts left _, given_counts right _)
