use Rattle.std.proofs.Common.{◌≡◌, ◌≢◌, ◌<◌, ◌≤◌, ◌-◌, ℕ, length, rules, slice_index}
use Rattle.smap_map_files.proofs.GivenLemmas.{is_path, whole_path}
use Rattle.smap_map_files.proofs.folders.without_slashes.Goals as goal

pub returns-then-at-given : goal.returns-then-at-given
returns-then-at-given c =
    let given = c.args.given.now in
    let at = c.slashes_start-at.result in
    let inside : at ≤ length given = search rules in
    let slashes : (k : ℕ) → at ≤ k → k < length given → slice_index given k ≡ 47 = search rules in
    let other : 1 < at → slice_index given (at - 1) ≢ 47 = search rules in
    let some : 0 < length given → 0 < at = search rules in
    is_path given c.before_slash.result.now at inside c.before_slash.ensures slashes other some

pub returns-else-at-given : goal.returns-else-at-given
returns-else-at-given c =
    let given = c.args.given.now in
    let at = c.slashes_start-at.result in
    let inside : at ≤ length given = search rules in
    let all : length given ≤ at = search rules in
    let slashes : (k : ℕ) → at ≤ k → k < length given → slice_index given k ≡ 47 = search rules in
    let other : 1 < at → slice_index given (at - 1) ≢ 47 = search rules in
    let some : 0 < length given → 0 < at = search rules in
    whole_path given at inside all slashes other some
