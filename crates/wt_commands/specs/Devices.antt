-- What a call did to a device: what the device held before and after, where that can be named, and how often it had failed.
use Rattle.std.specs.Prelude.{◌≡◌, ℕ, List, take, Option, ◌⊎◌}
use Rattle.std.specs.Io.KnownBytes.{Appends, Keeps}
use Rattle.wt_devices.specs.Device.{Pages, Rose}
use Rattle.wt_devices.specs.declared.device.Source.{Ghosts as OfSource}
use Rattle.wt_devices.specs.declared.device.Folder.{Ghosts as OfFolder}
use Rattle.wt_devices.specs.declared.device.Sink.{Ghosts as OfSink}

-- a source: what it had left
pub record SourceUse : Type 0 where
  pub left_before : Option (List ℕ)
  pub left_after : Option (List ℕ)
  pub faults_before : ℕ
  pub faults_after : ℕ

-- a folder: its pages, which stay as they are
pub record FolderUse : Type 0 where
  pub pages_before : Option Pages
  pub faults_before : ℕ
  pub faults_after : ℕ

-- a sink: what it had taken
pub record SinkUse : Type 0 where
  pub taken_before : Option (List ℕ)
  pub taken_after : Option (List ℕ)
  pub faults_before : ℕ
  pub faults_after : ℕ

-- what was read from a source, by what it was before the call and after it
abbrev pub read_from : {S : Type 0} → OfSource S → S → S → SourceUse
read_from source old new = record {
  left_before = source.left old;
  left_after = source.left new;
  faults_before = source.fault_count old;
  faults_after = source.fault_count new;
}

-- what was fetched from a folder
abbrev pub fetched_from : {F : Type 0} → OfFolder F → F → F → FolderUse
fetched_from folder old new = record {
  pages_before = folder.pages old;
  faults_before = folder.fault_count old;
  faults_after = folder.fault_count new;
}

-- what was written to a sink
abbrev pub written_to : {W : Type 0} → OfSink W → W → W → SinkUse
written_to sink old new = record {
  taken_before = sink.taken old;
  taken_after = sink.taken new;
  faults_before = sink.fault_count old;
  faults_after = sink.fault_count new;
}

-- ---- a source

abbrev pub SourceFailed : SourceUse → Type 0
SourceFailed s = Rose s.faults_before s.faults_after

-- ---- a folder

abbrev pub FolderFailed : FolderUse → Type 0
FolderFailed f = Rose f.faults_before f.faults_after

-- ---- a sink

abbrev pub SinkFailed : SinkUse → Type 0
SinkFailed s = Rose s.faults_before s.faults_after

-- the call left the sink as it was
pub record Untouched (s : SinkUse) : Type 0 where
  pub taken : Keeps s.taken_before s.taken_after
  pub count : s.faults_after ≡ s.faults_before

-- the sink took all of the bytes
pub record Took (s : SinkUse) (bytes : List ℕ) : Type 0 where
  pub taken : Appends s.taken_before s.taken_after bytes
  pub count : s.faults_after ≡ s.faults_before

-- a sink took a front of these bytes, which may be all or none of them
abbrev pub AppendsFront : Option (List ℕ) → Option (List ℕ) → List ℕ → Type 0
AppendsFront old new bytes = (n : ℕ) × Appends old new (take n bytes)

-- the sink failed, and had taken a front of the bytes
pub record FailedAfter (s : SinkUse) (bytes : List ℕ) : Type 0 where
  pub taken : AppendsFront s.taken_before s.taken_after bytes
  pub count : SinkFailed s

-- one or the other
abbrev pub TookOrFailed : SinkUse → List ℕ → Type 0
TookOrFailed s bytes = Took s bytes ⊎ FailedAfter s bytes
