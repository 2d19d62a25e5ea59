-- The contents of handles.
use Rattle.std.specs.Prelude.{Option}
use Rattle.std.specs.Option.{option_map}
use Rattle.std.specs.Arc.{arc_value}
use Rattle.any_dictionary.specs.declared.AnyDictionary.{AnyDictionary}
use Rattle.libhyphen_files.specs.Files.{Rules}
use Rattle.c_calls.specs.declared.content.Content.{Content}
use Rattle.c_calls.specs.declared.content.Content.TheVariants as of
use Rattle.c_calls.specs.declared.content.Loaded.{Loaded}
use Rattle.c_calls.specs.declared.handle.Handle.{Handle}

-- A dictionary of either kind, or the rules of a dictionary of two levels.
pub data Held : Type 0 where
  Dictionary : AnyDictionary → Held
  Levels : Rules → Held

-- The dictionary that is loaded.
abbrev pub dictionary_of : Loaded → AnyDictionary
dictionary_of loaded = arc_value loaded.dictionary

-- The dictionary in the box of a handle.
abbrev pub held_in : Content → Held
held_in (of.Dictionary loaded) = Dictionary (dictionary_of loaded)
held_in (of.Levels rules) = Levels rules

-- The dictionary that a handle holds, or none.
abbrev pub holds : Handle → Option Held
holds handle = option_map held_in handle.slot.kept
