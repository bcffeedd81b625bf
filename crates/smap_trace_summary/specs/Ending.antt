-- What is said at the end of a run.
use Rattle.std.specs.Prelude.{ℕ, ◌+◌, ◌-◌, ◌^◌, ◌==◌, ◌&&◌, Bool, not, cond, decimal, List, [], ◌++◌, codes}
use Rattle.std.specs.Prelude.{min}
use Rattle.smap_trace_summary.specs.declared.summary.Stayed.{Stayed}
use Rattle.smap_trace_summary.specs.declared.summary.Summary.{Summary}

abbrev pub frames_word : ℕ → List ℕ
frames_word n = cond (n == 1) (codes "frame") (codes "frames")

abbrev pub lines_word : ℕ → List ℕ
lines_word n = cond (n == 1) (codes "line") (codes "lines")

abbrev pub verb : ℕ → List ℕ
verb n = cond (n == 1) (codes "has") (codes "have")

-- Not all frames were translated.
abbrev pub is_said : Summary → Bool
is_said s = not (s.unmapped.count == 0 && (s.mapless.count == 0))

-- all frames, at most 2^64 - 1
abbrev pub total : Summary → ℕ
total s = min (min (s.translated + s.unmapped.count) (2 ^ 64 - 1) + s.mapless.count) (2 ^ 64 - 1)

abbrev pub lines_head : ℕ → List ℕ
lines_head n = decimal n ++ (codes " " ++ (lines_word n ++ codes " translated"))

abbrev pub frames_head : ℕ → ℕ → List ℕ
frames_head n translated =
    decimal n ++ (codes " " ++ (frames_word n ++ (codes ": " ++ (decimal translated ++ codes " translated"))))

-- what was translated: frames, or lines if others than frames were
abbrev pub head : Summary → List ℕ
head s = cond s.in_lines (lines_head s.translated) (frames_head (total s) s.translated)

-- the frames that stayed, which are named as such among lines
abbrev pub stayed : Bool → Stayed → List ℕ
stayed in_lines s = cond in_lines
    (codes ", " ++ (decimal s.count ++ (codes " " ++ (frames_word s.count ++ (codes " " ++ verb s.count)))))
    (codes ", " ++ (decimal s.count ++ (codes " " ++ verb s.count)))

abbrev pub unmapped : Bool → Stayed → List ℕ
unmapped in_lines s = cond (s.count == 0) []
    (stayed in_lines s ++ (codes " no mapping (" ++ (s.most.now ++ codes ": of another build?)")))

abbrev pub mapless : Bool → Stayed → List ℕ
mapless in_lines s = cond (s.count == 0) []
    (stayed in_lines s ++ (codes " no map (" ++ (s.most.now ++ codes ")")))

abbrev pub text : Summary → List ℕ
text s = head s ++ (unmapped s.in_lines s.unmapped ++ mapless s.in_lines s.mapless)
