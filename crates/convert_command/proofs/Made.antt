-- The dictionary that the bytes of a .dic make.
use Rattle.std.proofs.Common.{◌≡◌, ◌∙◌, ℕ, List, [], ap, sym, subst}
use Rattle.std.specs.Prelude.{Option, slice_index_or}
use Rattle.hyphenation_breaks.specs.Break.{Break, Change}
use Rattle.hyphenation_breaks.specs.Dictionary.{Contents}
use Rattle.libreoffice_files.specs.LibreOffice.{contents_of_dic}
use Rattle.convert_command.specs.Private.Requests.{is_dic}
use Rattle.convert_command.specs.declared.request.Input.{Input}
use Rattle.convert_command.specs.declared.request.Input.TheVariants.{Dic}
use Rattle.convert_command.specs.Written.{IsMadeOf}

pub dic_is_made : {C B : Type 0} (change_of : C → Option Change) (payload_of : Option Change → C) (listing_of : Break → B) (input : Input)
    (code : List ℕ) (left right : Option ℕ) (paths all : List (List ℕ)) (first : List ℕ) (dictionary : Contents C B) → input ≡ Dic
    → first ≡ slice_index_or all 0 [] → dictionary ≡ contents_of_dic change_of payload_of code left right first
    → IsMadeOf change_of payload_of listing_of (is_dic input) code left right paths all dictionary
dic_is_made change_of payload_of listing_of input code left right paths all first dictionary is_one same made =
    subst (λ input. IsMadeOf change_of payload_of listing_of (is_dic input) code left right paths all dictionary) (sym is_one)
    (made ∙ ap (λ bytes. contents_of_dic change_of payload_of code left right bytes) same)
