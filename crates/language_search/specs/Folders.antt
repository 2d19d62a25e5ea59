-- The folders in which dictionaries are searched. Sources: the XDG Base Directory Specification for the user's data folder,
-- and the Filesystem Hierarchy Standard for those of the system.
use Rattle.std.specs.Prelude.{ℕ, ◌==◌, List, [], ◌∷◌, ◌++◌, codes}
use Rattle.std.specs.List.{flat_map, slice_split}

-- The byte of a colon.
abbrev pub colon : ℕ
colon = 58

-- A folder, if its name is not empty.
abbrev pub folder_if_any : List ℕ → List (List ℕ)
folder_if_any [] = []
folder_if_any (byte ∷ bytes) = (byte ∷ bytes) ∷ []

-- The folders of a list that has colons between them, without those whose name is empty.
abbrev pub listed_folders : List ℕ → List (List ℕ)
listed_folders path = flat_map folder_if_any (slice_split (λ byte. byte == colon) path)

-- The folder of dictionaries in the user's data folder, or else in the user's home; none if both are empty.
abbrev pub folders_of_user : List ℕ → List ℕ → List (List ℕ)
folders_of_user [] [] = []
folders_of_user [] (byte ∷ bytes) = ((byte ∷ bytes) ++ codes "/.local/share/hyphenation") ∷ []
folders_of_user (byte ∷ bytes) home = ((byte ∷ bytes) ++ codes "/hyphenation") ∷ []

-- The folders of dictionaries of the system.
abbrev pub folders_of_system : List (List ℕ)
folders_of_system = codes "/usr/local/share/hyphenation" ∷ codes "/usr/share/hyphenation" ∷ []

-- The folders by the values of HYPHENATION_PATH, XDG_DATA_HOME and HOME: those that are listed, then the user's, and then
-- those of the system.
abbrev pub folders_of : List ℕ → List ℕ → List ℕ → List (List ℕ)
folders_of path data_home home = listed_folders path ++ (folders_of_user data_home home ++ folders_of_system)
