use Rattle.std.proofs.Common.{◌∙◌, option_map, sym, ap, Some}
use Rattle.std.specs.Prelude.{option_copied}
use Rattle.smap_record.specs.Record.{ReadMap, record_of}
use Rattle.smap_trace.specs.Scripts.{Script, map_of}
use Rattle.std.proofs.Common.{List}
use Rattle.smap_trace.proofs.TableLemmas.{found_in}
use Rattle.smap_trace.proofs.table.ScriptsMaps.map_of.Goals as goal

pub returns-in-Some : goal.returns-in-Some
returns-in-Some g c =
    let held_map = g.H.HasMap.held_map in
    ap (λ (m : ReadMap). Some (record_of m)) c.map.ensures
    ∙ ap (option_map (λ h. record_of (held_map h)))
    (ap option_copied (sym c.in-Some.is) ∙ c.get.ensures.value)
    ∙ found_in held_map c.args.url.now c.self.inside.maps.entries
    ∙ ap (λ (ss : List Script). map_of ss c.args.url.now) c.self.view_is

pub returns-in-None : goal.returns-in-None
returns-in-None g c =
    let held_map = g.H.HasMap.held_map in
    ap (option_map (λ h. record_of (held_map h)))
    (ap option_copied (sym c.in-None.is) ∙ c.get.ensures.value)
    ∙ found_in held_map c.args.url.now c.self.inside.maps.entries
    ∙ ap (λ (ss : List Script). map_of ss c.args.url.now) c.self.view_is
