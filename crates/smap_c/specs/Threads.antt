-- Handles that may go to another thread: what one owns says the same in every thread, so it may be read and
-- freed in any.
use Rattle.std.specs.Thread.{IsSend}
use Rattle.smap_c.specs.contracts.handles.SmapBuilder as builder
use Rattle.smap_c.specs.contracts.handles.SmapMap as map
use Rattle.smap_c.specs.contracts.handles.SmapBytes as bytes
use Rattle.smap_c.specs.contracts.handles.SmapScripts as scripts

abbrev pub MapCrosses : Type 0
MapCrosses = IsSend map.the_row

abbrev pub BytesCross : Type 0
BytesCross = IsSend bytes.the_row

abbrev pub ScriptsCross : Type 0
ScriptsCross = IsSend scripts.the_row

abbrev pub BuilderCrosses : Type 0
BuilderCrosses = IsSend builder.the_row
