-- The sink that the certificate goes to: its faults are those of the file that it holds.
use Rattle.std.specs.Prelude.{ℕ}
use Rattle.local_std.specs.declared.cert_sink.CertSink.{CertSink}
use Rattle.local_std.specs.declared.cert_sink.CertSink.TheVariants.{File, Nothing}

abbrev pub faults_of : {R Made Error : Type 0} → CertSink R Made Error → ℕ
faults_of (File file) = file.faults
faults_of (Nothing none) = 0
