use Rattle.std.proofs.Common.{◌∙◌, Some, ap, length, subst, sym}
use Rattle.smap_record.specs.Record.{record_of}
use Rattle.smap_compose.specs.declared.following.Listed.{Listed}
use Rattle.smap_compose.specs.Following.{IsListedAt, origin_at}
use Rattle.smap_compose.proofs.UsingLemmas.{found_any, kept_listed, kept_origin, number_within}
use Rattle.smap_compose.proofs.using.kept_original.Goals as goal

pub numbered-requires : goal.numbered-requires
numbered-requires c = number_within (record_of c.args.map.now) c.args.kept.now c.deref.result.now
    c.requires.kept c.deref.ensures.value c.in_ok-own.own c.in_ok-own.ensures.within.source

pub returns-clause-same : goal.returns-clause-same
returns-clause-same c = λ m at.
    let kept = c.args.kept.now in
    ap (λ (p : Listed). Some (origin_at kept.sources p)) c.numbered.ensures
    ∙ kept_origin (record_of c.args.map.now) kept c.deref.result.now c.requires.kept c.deref.ensures.value
    c.in_ok-own.own c.in_ok-own.ensures.within.source c.args.i m at (c.in_ok-own.ensures.same m at)

pub returns-clause-within : goal.returns-clause-within
returns-clause-within c =
    let kept = c.args.kept.now in
    let r = record_of c.args.map.now in
    let m = found_any r.mappings c.args.i c.requires.within in
    subst (IsListedAt (length kept.sources)) (sym c.numbered.ensures)
    (kept_listed r kept c.deref.result.now c.requires.kept c.deref.ensures.value c.in_ok-own.own
    c.in_ok-own.ensures.within.source c.args.i m.0 m.1 (c.in_ok-own.ensures.same m.0 m.1)
    c.in_ok-own.ensures.within)
