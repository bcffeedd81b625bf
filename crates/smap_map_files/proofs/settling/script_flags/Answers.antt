use Rattle.std.proofs.Common.{◌≡◌, ◌∙◌, ap, arith, rules, slice_get, map, Some, ℕ, option_map}
use Rattle.std.proofs.lemmas.List.{length-map}
use Rattle.std.proofs.lemmas.Option.{slice_get-get_or, slice_get-map, slice_get_read}
use Rattle.std.proofs.lemmas.Slice.Zip.{length-zip}
use Rattle.std.specs.Global.{Vec}
use Rattle.std.specs.List.{zip}
use Rattle.smap_map_files.specs.WantedView.{OfFolder, may_name_map}
use Rattle.smap_map_files.proofs.ListLemmas.{made_all, made_more, zip_at}
use Rattle.smap_map_files.proofs.settling.script_flags.Goals as goal

pub loop-i-preserved : goal.loop-i-preserved
loop-i-preserved c =
    let names = map (λ (f : Vec ℕ). f.items) c.args.files.now in
    let file : slice_get c.args.files.now c.loop-i.i ≡ Some c.index-files-i.result = search
    (rules, slice_get_read) in
    let name : slice_get names c.loop-i.i ≡ Some c.index-files-i.result.items =
    slice_get-map (λ (f : Vec ℕ). f.items) c.args.files.now c.loop-i.i
    ∙ ap (option_map (λ (f : Vec ℕ). f.items)) file in
    let root = slice_get-get_or c.args.roots.now c.loop-i.i 0 (omega
    (arith, c.loop-i-test.true, c.min-i-end.ensures)) in
    made_more (λ (f : OfFolder). may_name_map f.0)
    (zip names c.args.roots.now) c.loop-i.i _ c.loop-i.flags.items
    c.push.new.self.items _ c.may_name_map.result (zip_at names c.args.roots.now c.loop-i.i _ _ name root)
    (c.may_name_map.ensures
    ∙ ap may_name_map c.deref.ensures.value) c.in_ok-push.ensures.items c.loop-i.invariant

pub returns : goal.returns
returns c =
    let names = map (λ (f : Vec ℕ). f.items) c.args.files.now in
    made_all (λ (f : OfFolder). may_name_map f.0)
    (zip names c.args.roots.now) c.loop-i.i c.loop-i.flags.items _
    (omega (
      arith,
      length-zip names c.args.roots.now,
      length-map c.args.files.now (λ (f : Vec ℕ). f.items),
      c.loop-i-test.false,
      c.min-i-end.ensures,
    )) c.loop-i.invariant
