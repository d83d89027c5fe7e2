pub mod ReportClaim
