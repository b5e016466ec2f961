-- Worked certificates, and the lines at which damaged ones go wrong.
use Rattle.std.proofs.Common.{◌≡◌, ℕ, List, Result, Ok, Err, refl, codes}
use Rattle.std.specs.Fmt.{digits}
use Rattle.cert_grammar.specs.Blocks.{Block}
use Rattle.cert_grammar.specs.Lines.{Line}
use Rattle.cert_grammar.specs.Reading.{read_text, line_number, reads_at, blocks_at}

-- the line at which the bytes go wrong, and 0 where they are a certificate
abbrev pub answered : List ℕ → Result (List Block) (List Line) → ℕ
answered bytes (Ok blocks) = 0
answered bytes (Err after) = line_number bytes after

-- the line at which a text goes wrong, and 0 where it doesn't
abbrev pub first_bad : List ℕ → ℕ
first_bad bytes = answered bytes (read_text bytes)

-- The certificate of the jacobian ideal of a curve is read.
a-is : first_bad (codes "lstd-cert 1\nblock 1\np 32003\nvars x y\nD 6\ngens 2\n2*x*y^2+5*x^4\n2*x^2*y+5*y^4\nentries 4\nentry 0 gen 0\nread 0 28\npoly x*y^2-15999*x^4\nentry 1 gen 1\nread 1 28\npoly x^2*y-15999*y^4\nentry 2 pair 0 1\nread 2 28\npoly x^5-y^5\nentry 3 pair 1 2\nread 3 28\npoly y^6\nfits\nbasis 4\nx^2*y-15999*y^4\nx*y^2-15999*x^4\nx^5-y^5\ny^6\ncorner y^5\nstair 11 1 x y x^2 x*y y^2 x^3 y^3 x^4 y^4 y^5\nend 1\ndone 1\n") ≡ 0
unfolding reads_at blocks_at digits
a-is = refl

-- One whose run uses an intermediate is read.
b-is : first_bad (codes "lstd-cert 1\nblock 1\np 32003\nvars x y\nD 4\ngens 2\nx-x^2-y^3\nx\nentries 2\nentry 0 gen 0\nread 0 15\npoly x-x^2-y^3\nentry 1 gen 1\nread 1 15\nread 1 15\nread 1 15\npoly y^3\nfits\nbasis 2\nx\ny^3\ncorner y^2\nstair 3 1 y y^2\nend 1\ndone 1\n") ≡ 0
unfolding reads_at blocks_at digits
b-is = refl

-- One with a corner that another worker lowered is read.
c-is : first_bad (codes "lstd-cert 1\nblock 1\np 32003\nvars x y\nD 4\ngens 3\nx^2\ny^2\nx^2+x*y+x^3\nentries 3\nentry 0 gen 0\nread 0 15\npoly x^2\nentry 1 gen 1\nread 1 15\npoly y^2\nentry 2 gen 2\nread 1 5\nread 2 5\npoly x*y\nfits\nbasis 3\nx^2\nx*y\ny^2\ncorner y\nstair 3 1 x y\nend 1\ndone 1\n") ≡ 0
unfolding reads_at blocks_at digits
c-is = refl

-- a residue that is written in another way
a_form-is : first_bad (codes "lstd-cert 1\nblock 1\np 32003\nvars x y\nD 6\ngens 2\n2*x*y^2+5*x^4\n2*x^2*y+5*y^4\nentries 4\nentry 0 gen 0\nread 0 28\npoly x*y^2+16004*x^4\nentry 1 gen 1\nread 1 28\npoly x^2*y-15999*y^4\nentry 2 pair 0 1\nread 2 28\npoly x^5-y^5\nentry 3 pair 1 2\nread 3 28\npoly y^6\nfits\nbasis 4\nx^2*y-15999*y^4\nx*y^2-15999*x^4\nx^5-y^5\ny^6\ncorner y^5\nstair 11 1 x y x^2 x*y y^2 x^3 y^3 x^4 y^4 y^5\nend 1\ndone 1\n") ≡ 12
unfolding reads_at blocks_at digits
a_form-is = refl

-- A number with a leading zero is refused at its line.
a_zeros-is : first_bad (codes "lstd-cert 1\nblock 1\np 32003\nvars x y\nD 6\ngens 2\n2*x*y^2+5*x^4\n2*x^2*y+5*y^4\nentries 04\nentry 0 gen 0\nread 0 28\npoly x*y^2-15999*x^4\nentry 1 gen 1\nread 1 28\npoly x^2*y-15999*y^4\nentry 2 pair 0 1\nread 2 28\npoly x^5-y^5\nentry 3 pair 1 2\nread 3 28\npoly y^6\nfits\nbasis 4\nx^2*y-15999*y^4\nx*y^2-15999*x^4\nx^5-y^5\ny^6\ncorner y^5\nstair 11 1 x y x^2 x*y y^2 x^3 y^3 x^4 y^4 y^5\nend 1\ndone 1\n") ≡ 9
unfolding reads_at blocks_at digits
a_zeros-is = refl

-- No bytes go wrong at line 1.
none-is : first_bad (codes "") ≡ 1
unfolding reads_at blocks_at digits
none-is = refl

-- A last line without its end is refused.
a_open-is : first_bad (codes "lstd-cert 1\nblock 1\np 32003\nvars x y\nD 6\ngens 2\n2*x*y^2+5*x^4\n2*x^2*y+5*y^4\nentries 4\nentry 0 gen 0\nread 0 28\npoly x*y^2-15999*x^4\nentry 1 gen 1\nread 1 28\npoly x^2*y-15999*y^4\nentry 2 pair 0 1\nread 2 28\npoly x^5-y^5\nentry 3 pair 1 2\nread 3 28\npoly y^6\nfits\nbasis 4\nx^2*y-15999*y^4\nx*y^2-15999*x^4\nx^5-y^5\ny^6\ncorner y^5\nstair 11 1 x y x^2 x*y y^2 x^3 y^3 x^4 y^4 y^5\nend 1\ndone 1") ≡ 31
unfolding reads_at blocks_at digits
a_open-is = refl

-- What stands behind the last line is refused at the line behind it.
a_tail-is : first_bad (codes "lstd-cert 1\nblock 1\np 32003\nvars x y\nD 6\ngens 2\n2*x*y^2+5*x^4\n2*x^2*y+5*y^4\nentries 4\nentry 0 gen 0\nread 0 28\npoly x*y^2-15999*x^4\nentry 1 gen 1\nread 1 28\npoly x^2*y-15999*y^4\nentry 2 pair 0 1\nread 2 28\npoly x^5-y^5\nentry 3 pair 1 2\nread 3 28\npoly y^6\nfits\nbasis 4\nx^2*y-15999*y^4\nx*y^2-15999*x^4\nx^5-y^5\ny^6\ncorner y^5\nstair 11 1 x y x^2 x*y y^2 x^3 y^3 x^4 y^4 y^5\nend 1\ndone 1\nx") ≡ 32
unfolding reads_at blocks_at digits
a_tail-is = refl

-- A line that is no polynomial where a generator must stand is refused.
a_gens3-is : first_bad (codes "lstd-cert 1\nblock 1\np 32003\nvars x y\nD 6\ngens 3\n2*x*y^2+5*x^4\n2*x^2*y+5*y^4\nentries 4\nentry 0 gen 0\nread 0 28\npoly x*y^2-15999*x^4\nentry 1 gen 1\nread 1 28\npoly x^2*y-15999*y^4\nentry 2 pair 0 1\nread 2 28\npoly x^5-y^5\nentry 3 pair 1 2\nread 3 28\npoly y^6\nfits\nbasis 4\nx^2*y-15999*y^4\nx*y^2-15999*x^4\nx^5-y^5\ny^6\ncorner y^5\nstair 11 1 x y x^2 x*y y^2 x^3 y^3 x^4 y^4 y^5\nend 1\ndone 1\n") ≡ 9
unfolding reads_at blocks_at digits
a_gens3-is = refl

-- A blank at the end of a line is refused.
a_blank-is : first_bad (codes "lstd-cert 1\nblock 1\np 32003\nvars x y\nD 6\ngens 2\n2*x*y^2+5*x^4\n2*x^2*y+5*y^4\nentries 4\nentry 0 gen 0\nread 0 28 \npoly x*y^2-15999*x^4\nentry 1 gen 1\nread 1 28\npoly x^2*y-15999*y^4\nentry 2 pair 0 1\nread 2 28\npoly x^5-y^5\nentry 3 pair 1 2\nread 3 28\npoly y^6\nfits\nbasis 4\nx^2*y-15999*y^4\nx*y^2-15999*x^4\nx^5-y^5\ny^6\ncorner y^5\nstair 11 1 x y x^2 x*y y^2 x^3 y^3 x^4 y^4 y^5\nend 1\ndone 1\n") ≡ 11
unfolding reads_at blocks_at digits
a_blank-is = refl

-- A last line with another number of blocks is refused.
a_done2-is : first_bad (codes "lstd-cert 1\nblock 1\np 32003\nvars x y\nD 6\ngens 2\n2*x*y^2+5*x^4\n2*x^2*y+5*y^4\nentries 4\nentry 0 gen 0\nread 0 28\npoly x*y^2-15999*x^4\nentry 1 gen 1\nread 1 28\npoly x^2*y-15999*y^4\nentry 2 pair 0 1\nread 2 28\npoly x^5-y^5\nentry 3 pair 1 2\nread 3 28\npoly y^6\nfits\nbasis 4\nx^2*y-15999*y^4\nx*y^2-15999*x^4\nx^5-y^5\ny^6\ncorner y^5\nstair 11 1 x y x^2 x*y y^2 x^3 y^3 x^4 y^4 y^5\nend 1\ndone 2\n") ≡ 31
unfolding reads_at blocks_at digits
a_done2-is = refl
