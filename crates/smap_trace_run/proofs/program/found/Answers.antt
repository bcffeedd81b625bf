use Rattle.std.proofs.Common.{arith}
use Rattle.smap_trace_run.proofs.program.found.Goals as goal

pub returns : goal.returns
returns g c =
    let settled = c.in_ok-settle.ensures.settled in
    record {
      named = c.in_ok-wanted.wanted;
      names = rw c.deref.ensures.value at c.in_ok-wanted.ensures;
      settled = record {
        places = settled.places;
        origins = settled.origins;
        files = settled.files;
        file_roots = settled.file_roots;
        map_count = settled.map_count;
        roots = settled.roots;
        logs = settled.logs;
        positions = settled.positions;
      };
      url_bytes = c.url_bytes.ensures;
      mends = grind (arith, c.has-is_strict.ensures);
      chains = grind (arith, c.has-is_closed.ensures);
      clear = c.in_ok-check_lines.ensures;
    }
