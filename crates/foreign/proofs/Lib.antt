mod Sealing
