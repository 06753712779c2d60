-- What the attributes that an editor sent back may be, by the values that they stand for.
use Rattle.std.specs.Prelude.{◌≡◌, ℕ, ◌<◌, ◌^◌, List, [], Option, Some, None, codes, unwrap_or}
use Rattle.std.specs.List.{AllByRecursion}
use Rattle.serde_json.specs.Data.{string, object, Members, member, no_members}
use Rattle.serde_json.specs.Read.{read}
use Rattle.wt_tree.specs.declared.node.DataMw.{DataMw}
use Rattle.wt_tree.specs.declared.node.DataMw.TheVariants as mw
use Rattle.wt_tree.specs.declared.node.Part.{Part}
use Rattle.wt_tree.specs.declared.node.Part.TheVariants as part
use Rattle.wt_datamw.specs.declared.sync.Sync.{Sync}
use Rattle.wt_datamw.specs.Mw.{mw_data}
use Rattle.wt_datamw.specs.MwRead.{HasOrderedNames}
use Rattle.wt_datamw.specs.Sync.{dsr_data}
use Rattle.wt_datamw.specs.SyncRead.{IsSmall}

-- ---- `data-mw`

-- the number of a call is below 2^32
abbrev pub IsNumbered : Part → Type 0
IsNumbered (part.Template target href params i) = i < 2 ^ 32
IsNumbered (part.Function name target params i) = i < 2 ^ 32
IsNumbered (part.Param source) = Unit {0}
IsNumbered (part.Literal text) = Unit {0}

abbrev pub AreNumbered : DataMw → Type 0
AreNumbered (mw.Parts parts) = AllByRecursion IsNumbered parts
AreNumbered (mw.Extension name body) = Unit {0}

-- A text says a value where it is JSON for exactly the data that is written for the value: no further key, nothing missing,
-- whatever white space and order of keys. What a call's names and numbers are is so of each value that is written.
pub record SaysMw (text : List ℕ) (value : DataMw) : Type 0 where
  pub json : read text ≡ Some (mw_data value)
  pub ordered : HasOrderedNames value
  pub numbered : AreNumbered value

-- ---- `data-parsoid`

-- a text under a key, if there is one
abbrev pub text_member : List ℕ → Option (List ℕ) → Members → Members
text_member key None ms = ms
text_member key (Some text) ms = member key (string text) ms

-- the delimiter that a missing text stands for, too, is empty
abbrev pub or_empty : Option (List ℕ) → List ℕ
or_empty text = unwrap_or text []

-- A text says a value where it is JSON for an object with the four places, and with the delimiters and the source, if they are
-- there, and with nothing else.
pub record SaysSync (text : List ℕ) (value : Sync) : Type 0 where
  pub closing : Option (List ℕ)
  pub opening : Option (List ℕ)
  pub json : read text ≡ Some (object (text_member (codes "c") closing (member (codes "dsr") (dsr_data value.dsr)
      (text_member (codes "o") opening (text_member (codes "src") value.src no_members)))))
  pub closes : value.closing ≡ or_empty closing
  pub opens : value.opening ≡ or_empty opening
  pub small : IsSmall value
