pub mod Fingerprint
