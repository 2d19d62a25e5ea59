-- No path leaves the folders.
use Rattle.std.proofs.Common.{◌≡◌, ◌≢◌, ℕ, Bool, true, false, List, [], ◌∷◌, ◌++◌, codes, refl, ap, ◌∙◌, All, Contains, Option, Some, None, IfSome, inl, inr, if◌then◌else◌, true≢false, sym}
use Rattle.std.specs.List.{flat_map, list_all, AllByRecursion}
use Rattle.std.specs.Str.{bytes_eq}
use Rattle.std.proofs.lemmas.List.Elements.{All-nil, All-cons, All-head, All-tail, All-append, All-from_recursion, All-contains_itself, filter_passes}
use Rattle.std.proofs.lemmas.Bool.{and_parts}
use Rattle.hyphenation_breaks.specs.Ascii.{dot, slash}
use Rattle.hyphenation_breaks.specs.Language.{is_code_byte, is_code, IsCode}
use Rattle.language_search.proofs.Codes.{bytes_of_code}
use Rattle.language_search.specs.Laws.{IsEndingOf, IsPlainName, IsRightIn, PathsStayInFolders}
use Rattle.language_search.specs.Names.{usual_variant, name_if_any, names_of}
use Rattle.language_search.specs.Paths.{paths_in, paths_of_name, paths_by_code}
use Rattle.language_search.specs.declared.paths.Sought.{Sought}
use Rattle.language_search.specs.declared.paths.Sought.TheVariants.{Dictionary, Exceptions}
use Rattle.language_search.specs.Tags.{searched, fronts, codes_of}

-- If a fact holds of all that each element gives, it holds of all that they give together.
each_gives : {X Y : Type 0} (P : Y → Type 0) (Q : X → Type 0) (f : X → List Y) → ((x : X) → Q x → All P (f x)) → (xs : List X) → All Q xs
    → All P (flat_map f xs)
each_gives P Q f gives [] all = All-nil P
each_gives P Q f gives (x ∷ xs) all =
    All-append P (f x) (flat_map f xs) (gives x (All-head Q x xs all)) (each_gives P Q f gives xs (All-tail Q x xs all))

lacks : (other : ℕ) → is_code_byte other ≡ false → (text : List ℕ) → list_all is_code_byte text ≡ true → AllByRecursion (λ byte. byte ≢ other) text
lacks other is_none [] h = tt
lacks other is_none (b ∷ bs) h = (
  (λ e. true≢false (sym (and_parts (is_code_byte b) (list_all is_code_byte bs) h).0 ∙ (ap is_code_byte e ∙ is_none))),
  lacks other is_none bs (and_parts (is_code_byte b) (list_all is_code_byte bs) h).1,
)

plain_code : (name : List ℕ) → IsCode name → IsPlainName name
plain_code name h =
    let bytes = bytes_of_code name h in
    record {
      code = h;
      no_slash = All-from_recursion (λ byte. byte ≢ slash) name (lacks slash refl name bytes);
      no_dot = All-from_recursion (λ byte. byte ≢ dot) name (lacks dot refl name bytes);
    }

either : (P : List ℕ → Type 0) (b : Bool) (x y : Option (List ℕ)) → IfSome x P → IfSome y P → IfSome (if b then x else y) P
either P true x y h k = h
either P false x y h k = k

variant_is_plain : (code : List ℕ) → IfSome (usual_variant code) IsPlainName
unfolding usual_variant
variant_is_plain code =
    either IsPlainName (bytes_eq code (codes "de")) _ _ (plain_code (codes "de-1996") refl)
    (either IsPlainName (bytes_eq code (codes "el")) _ _ (plain_code (codes "el-monoton") refl)
    (either IsPlainName (bytes_eq code (codes "en")) _ _ (plain_code (codes "en-us") refl)
    (either IsPlainName (bytes_eq code (codes "mn")) _ _ (plain_code (codes "mn-cyrl") refl)
    (either IsPlainName (bytes_eq code (codes "sh")) _ _ (plain_code (codes "sh-latn") refl)
    (either IsPlainName (bytes_eq code (codes "sr")) _ _ (plain_code (codes "sr-cyrl") refl) tt)))))

if_any_is_plain : (name : Option (List ℕ)) → IfSome name IsPlainName → All IsPlainName (name_if_any name)
if_any_is_plain (Some name) h = All-cons IsPlainName name [] h (All-nil IsPlainName)
if_any_is_plain None h = All-nil IsPlainName

names_are_plain : (code : List ℕ) → IsCode code → All IsPlainName (names_of code)
names_are_plain code h =
    All-cons IsPlainName code (name_if_any (usual_variant code)) (plain_code code h)
    (if_any_is_plain (usual_variant code) (variant_is_plain code))

right_in : (sought : Sought) (folders : List (List ℕ)) (name folder ending : List ℕ) → IsPlainName name → Contains folders folder
    → IsEndingOf sought ending → IsRightIn sought folders (folder ++ (slash ∷ (name ++ ending)))
right_in sought folders name folder ending plain listed ends = record {
  folder = folder;
  name = name;
  ending = ending;
  listed = listed;
  plain = plain;
  ends = ends;
  path_is = refl;
}

paths_in_stay : (sought : Sought) (folders : List (List ℕ)) (name : List ℕ) → IsPlainName name → (folder : List ℕ) → Contains folders folder
    → All (IsRightIn sought folders) (paths_in sought name folder)
paths_in_stay Dictionary folders name plain folder listed =
    let standard : List ℕ = folder ++ (slash ∷ (name ++ codes ".txt")) in
    let extended : List ℕ = folder ++ (slash ∷ (name ++ codes ".extended.txt")) in
    All-cons (IsRightIn Dictionary folders) standard (extended ∷ [])
    (right_in Dictionary folders name folder (codes ".txt") plain listed (inl refl))
    (All-cons (IsRightIn Dictionary folders) extended [] (right_in Dictionary folders name folder (codes ".extended.txt") plain listed (inr refl))
    (All-nil (IsRightIn Dictionary folders)))
paths_in_stay Exceptions folders name plain folder listed =
    All-cons (IsRightIn Exceptions folders) (folder ++ (slash ∷ (name ++ codes ".exceptions"))) []
    (right_in Exceptions folders name folder (codes ".exceptions") plain listed refl) (All-nil (IsRightIn Exceptions folders))

paths_of_name_stay : (sought : Sought) (folders : List (List ℕ)) (name : List ℕ) → IsPlainName name
    → All (IsRightIn sought folders) (paths_of_name sought folders name)
paths_of_name_stay sought folders name plain =
    each_gives (IsRightIn sought folders) (Contains folders) (paths_in sought name) (paths_in_stay sought folders name plain) folders (All-contains_itself folders)

paths_by_code_stay : (sought : Sought) (folders : List (List ℕ)) (code : List ℕ) → IsCode code → All (IsRightIn sought folders) (paths_by_code sought folders code)
paths_by_code_stay sought folders code h =
    each_gives (IsRightIn sought folders) IsPlainName (paths_of_name sought folders) (paths_of_name_stay sought folders) (names_of code) (names_are_plain code h)

pub paths_stay : PathsStayInFolders
paths_stay sought folders tag =
    each_gives (IsRightIn sought folders) IsCode (paths_by_code sought folders) (paths_by_code_stay sought folders) (codes_of tag)
    (filter_passes is_code (fronts (searched tag)))
